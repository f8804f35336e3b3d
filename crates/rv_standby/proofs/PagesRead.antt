-- Cells that open to a page, and cells that do not.
use Rattle.std.proofs.Common.{◌≡◌, ℕ, ◌^◌, ◌<◌, Bool, true, false, List, [], Result, Ok, Err, IsErrAnd, sym, ◌∙◌, subst}
use Rattle.rv_base.specs.Sorted.{InOrder, is_in_order}
use Rattle.rv_base.specs.RisingLaws.{order_is}
use Rattle.rv_book.specs.declared.page.Page.{Page}
use Rattle.rv_keeper.specs.declared.cell.Cell.{Cell}
use Rattle.rv_keeper.specs.Cells.{cell_key}
use Rattle.rv_record.specs.declared.fault.CellFault.{CellFault}
use Rattle.rv_record.specs.declared.fault.CellFault.TheVariants.{BadCell, Memory}
use Rattle.rv_record.specs.declared.page_read.PageRead.{PageRead}
use Rattle.rv_record.specs.PageLaws.{kept_unbroken, none_kept_one, page_cells-order}
use Rattle.rv_record.specs.PageReads.{IsKeptPage, ReadsPage}
use Rattle.rv_standby.specs.declared.take_fault.TakeFault.{TakeFault}
use Rattle.rv_standby.specs.Following.{OpensOrNot, fault_of}

-- the cells of a page stand in order
kept_in_order : (limit : ℕ) (cells : List Cell) (page : Page) → IsKeptPage limit cells page → is_in_order cell_key cells ≡ true
kept_in_order limit cells page kept = order_is cell_key cells (subst (InOrder cell_key) (sym kept.are) (page_cells-order page kept.sound))

pub not_in_order : (limit : ℕ) (cells : List Cell) (ordered : Bool) → ordered ≡ is_in_order cell_key cells → ordered ≡ false → (page : Page) → ¬ IsKeptPage limit cells page
not_in_order limit cells ordered is fails page kept = let both : true ≡ false = sym (kept_in_order limit cells page kept) ∙ sym is ∙ fails in cc

pub none_read : (limit : ℕ) (cells : List Cell) → cells ≡ [] → (page : Page) → ¬ IsKeptPage limit cells page
none_read limit cells none page kept = none_kept_one limit page (subst (λ (c : List Cell). IsKeptPage limit c page) none kept)

-- the fault that is told of cells that break off
broken_page : (limit : ℕ) (cells : List Cell) (fault : CellFault) → limit < 2 ^ 32 → ReadsPage limit cells (Err fault) → OpensOrNot limit cells (Err (fault_of fault))
broken_page limit cells (BadCell damage) small breaks = λ page kept. kept_unbroken limit cells page damage small kept breaks
broken_page limit cells Memory small none = tt

pub page_fails : (limit : ℕ) (cells : List Cell) (fault : CellFault) (r : Result PageRead TakeFault) → limit < 2 ^ 32 → ReadsPage limit cells (Err fault) → IsErrAnd r (λ d. d ≡ fault_of fault) → OpensOrNot limit cells r
page_fails limit cells fault (Ok read) small breaks is = absurd is
page_fails limit cells fault (Err d) small breaks is = subst (λ (d : TakeFault). OpensOrNot limit cells (Err d)) (sym is) (broken_page limit cells fault small breaks)

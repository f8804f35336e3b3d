use Rattle.std.proofs.Common.{◌≡◌, ◌∷◌, ℕ, List, Result, Ok, Err, [], sym, ap, ◌∙◌}
use Rattle.std.specs.Prelude.{is_ok}
use Rattle.std.specs.Option.{is_some}
use Rattle.rv_base.specs.Sorted.{find_by, IsPositionOf}
use Rattle.rv_keeper.specs.declared.cell.Cell.{Cell}
use Rattle.rv_keeper.specs.Cells.{cell_key}
use Rattle.rv_record.proofs.page_checking.names_group.Goals as goal

found : (k : List ℕ) (cells : List Cell) (r : Result ℕ ℕ) → IsPositionOf cell_key k cells r → is_ok r ≡ is_some (find_by cell_key k cells)
found k cells (Ok i) at = sym (ap is_some (at.found (record { shelf = 0; key = []; body = [] })))
found k cells (Err i) at = sym (ap is_some at.absent)

pub returns : goal.returns
returns c = c.is_ok.ensures.value ∙ found (9 ∷ c.args.group.now) c.args.cells.now _ c.position_of.ensures

-- What opening makes of cells and a generation that were loaded: the book that is kept as them, or the first place that is
-- wrong.
use Rattle.std.specs.Prelude.{◌≡◌, ◌⊎◌, ℕ, ◌+◌, ◌≤◌, List, [], ◌∷◌, ◌++◌, not, Result, Ok, Err}
use Rattle.std.specs.Cmp.Lexicographic.{slice_cmp}
use Rattle.std.specs.declared.cmp.Ordering.TheVariants.{Less}
use Rattle.std.specs.List.{AllByRecursion, filter}
use Rattle.std.specs.Ordering.{nat_cmp}
use Rattle.rv_base.specs.Sorted.{find_by}
use Rattle.rv_book.specs.declared.page.Page.{Page}
use Rattle.rv_book.specs.Book.{Book, no_page, size}
use Rattle.rv_history.specs.Lawful.{IsLawful}
use Rattle.rv_keeper.specs.declared.cell.Cell.{Cell}
use Rattle.rv_keeper.specs.declared.loaded.Loaded.{Loaded}
use Rattle.rv_keeper.specs.Cells.{cell_key}
use Rattle.rv_record.specs.declared.fault.CellFault.{CellFault}
use Rattle.rv_record.specs.declared.fault.CellFault.TheVariants.{BadCell, Memory}
use Rattle.rv_record.specs.declared.fault.Damage.{Damage}
use Rattle.rv_record.specs.CellReading.{damage_at}
use Rattle.rv_record.specs.EntryReading.{EntryFits}
use Rattle.rv_record.specs.PageCells.{PartsFit, on_page}
use Rattle.rv_record.specs.Begins.{BreaksPage}
use Rattle.rv_record.specs.PageReads.{IsKeptPage}
use Rattle.rv_state.specs.Standing.{Standing}
use Rattle.rv_state.specs.Entering.{IsBrokenEntry}
use Rattle.rv_store.specs.StoreCells.{AreDerived, IsKeptAs, entry_cells}

-- A lawful book that is at most so long, whose entries and whose page are of the form.
pub record IsSoundBook (limit : ℕ) (book : Book) : Type 0 where
  pub lawful : IsLawful book
  pub within : size book ≤ limit
  pub fits : AllByRecursion EntryFits book.entries
  pub parts : PartsFit book.page

-- the book that opens: it is sound, and kept as just this
pub record MayOpen (limit : ℕ) (book : Book) (loaded : Loaded) : Type 0 where
  pub sound : IsSoundBook limit book
  pub kept : IsKeptAs book loaded

-- the cells on the shelves of a page, 6 to 9, and those on the others
abbrev pub page_shelves : List Cell → List Cell
page_shelves cells = filter on_page cells

abbrev pub other_shelves : List Cell → List Cell
other_shelves cells = filter (λ cell. not (on_page cell)) cells

-- the page that is kept as these cells; no page where there are none
abbrev pub IsPageOf : ℕ → List Cell → Page → Type 0
IsPageOf limit cells page = ((cells ≡ []) × (page ≡ no_page)) ⊎ IsKeptPage limit cells page

-- The least shelf and key at which the two hold not the same: a cell is missing, is too much, or has another body.
pub record IsFirstDifference (own loaded : List Cell) (damage : Damage) : Type 0 where
  pub differs : ¬ (find_by cell_key (damage.shelf ∷ damage.key) own ≡ find_by cell_key (damage.shelf ∷ damage.key) loaded)
  pub first : (place : List ℕ) → slice_cmp nat_cmp place (damage.shelf ∷ damage.key) ≡ Less → find_by cell_key place own ≡ find_by cell_key place loaded

-- the book opens with the page, and its entries are those of a sound book up to a cell of shelf 1 that breaks off
pub record BreaksAt (limit : ℕ) (page : Page) (all : List Cell) (damage : Damage) : Type 0 where
  pub book : Book
  pub cell : Cell
  pub others : List Cell
  pub opens : book.page ≡ page
  pub cells : all ≡ entry_cells (page.at + 1) book.entries ++ cell ∷ others
  pub sound : IsSoundBook limit book
  pub broken : IsBrokenEntry limit book cell
  pub at : damage ≡ damage_at cell

-- The book opens with the page, its entries are those of a sound book, and what stands on the shelves from 2 on.
pub record HasEntries (limit : ℕ) (page : Page) (book : Book) (all others : List Cell) : Type 0 where
  pub opens : book.page ≡ page
  pub cells : all ≡ entry_cells (page.at + 1) book.entries ++ others
  pub beside : AllByRecursion (λ cell. 2 ≤ cell.shelf) others
  pub sound : IsSoundBook limit book

-- the entries are those of a sound book, whose other cells are not just the loaded ones, first at this place
pub record DiffersAt (limit : ℕ) (page : Page) (all : List Cell) (damage : Damage) : Type 0 where
  pub book : Book
  pub others : List Cell
  pub own : List Cell
  pub entries : HasEntries limit page book all others
  pub derived : AreDerived book own
  pub difference : IsFirstDifference own others damage

-- the cells are those of a sound book, and the generation is not how long the book is; then the place is shelf 0 and no key
pub record HasOtherGeneration (limit : ℕ) (page : Page) (all : List Cell) (found : ℕ) (damage : Damage) : Type 0 where
  pub book : Book
  pub others : List Cell
  pub entries : HasEntries limit page book all others
  pub derived : AreDerived book others
  pub generation : ¬ (found ≡ size book)
  pub at : damage ≡ record { shelf = 0; key = [] }

-- The first place that is wrong: on the shelves of the page; else, where the page is read, among the entries; else on the other shelves; else
-- the generation.
pub data IsDamaged (limit : ℕ) (loaded : Loaded) (damage : Damage) : Type 0 where
  breaks_page : BreaksPage limit (page_shelves loaded.cells) damage → IsDamaged limit loaded damage
  breaks : (opened : Page) → IsPageOf limit (page_shelves loaded.cells) opened → BreaksAt limit opened (other_shelves loaded.cells) damage → IsDamaged limit loaded damage
  differs : (opened : Page) → IsPageOf limit (page_shelves loaded.cells) opened → DiffersAt limit opened (other_shelves loaded.cells) damage → IsDamaged limit loaded damage
  another : (opened : Page) → IsPageOf limit (page_shelves loaded.cells) opened → HasOtherGeneration limit opened (other_shelves loaded.cells) loaded.generation damage → IsDamaged limit loaded damage

-- What opening answers: the state of the book that is kept as what was loaded; the first place that is wrong; or that memory
-- was refused, which may come at any store.
abbrev pub Restores : ℕ → Loaded → Result Standing CellFault → Type 0
Restores limit loaded (Ok state) = MayOpen limit state.book loaded × (state.limit ≡ limit)
Restores limit loaded (Err (BadCell damage)) = IsDamaged limit loaded damage
Restores limit loaded (Err Memory) = Unit {0}

-- What the steps of opening answer: the entries are entered one after another, and then the other cells of their book are
-- compared with the loaded ones.
use Rattle.std.specs.Prelude.{◌≡◌, ℕ, ◌+◌, ◌≤◌, List, [], ◌++◌, Option, Result, Ok, Err}
use Rattle.std.specs.Option.{option_map_or}
use Rattle.rv_base.specs.Sorted.{InOrder}
use Rattle.rv_book.specs.declared.page.Page.{Page}
use Rattle.rv_book.specs.SoundPages.{IsSoundPage}
use Rattle.rv_book.specs.Book.{Book, no_page}
use Rattle.rv_keeper.specs.declared.cell.Cell.{Cell}
use Rattle.rv_keeper.specs.Cells.{cell_key}
use Rattle.rv_record.specs.declared.fault.CellFault.{CellFault}
use Rattle.rv_record.specs.declared.fault.CellFault.TheVariants.{BadCell, Memory}
use Rattle.rv_record.specs.declared.page_read.PageRead.{PageRead}
use Rattle.rv_record.specs.PageCells.{PartsFit}
use Rattle.rv_state.specs.Standing.{Standing}
use Rattle.rv_store.specs.StoreCells.{AreDerived}
use Rattle.rv_store.specs.Opening.{IsFirstDifference, BreaksAt, HasEntries}

-- a page that was read: it is sound, at a place from 1 to the limit, of the form, and its rows are the tables'
pub record Stands (limit : ℕ) (read : PageRead) : Type 0 where
  pub from : 1 ≤ read.page.at
  pub within : read.page.at ≤ limit
  pub sound : IsSoundPage read.page
  pub fits : PartsFit read.page
  pub tables : read.tables.rows ≡ read.page.rows

-- the page of a book that opens with what was read
abbrev pub page_or_none : Option PageRead → Page
page_or_none read = option_map_or (λ r. r.page) read no_page

-- What is answered when all entries are entered: the state of their book, whose entries' cells are just these; or the cell that
-- breaks off.
abbrev pub EntersAll : ℕ → Page → List Cell → Result Standing CellFault → Type 0
EntersAll limit page cells (Ok state) = HasEntries limit page state.book cells [] × (state.limit ≡ limit)
EntersAll limit page cells (Err (BadCell damage)) = BreaksAt limit page cells damage
EntersAll limit page cells (Err Memory) = Unit {0}

-- the damage is at the first place where the two hold not the same, or memory was refused
abbrev pub Differs : List Cell → List Cell → CellFault → Type 0
Differs own loaded (BadCell damage) = IsFirstDifference own loaded damage
Differs own loaded Memory = Unit {0}

-- However a book's cells go on after these in their order, they differ from the loaded ones, first where the damage is.
abbrev pub Departs : List Cell → List Cell → CellFault → Type 0
Departs own loaded fault = (more : List Cell) → InOrder cell_key (own ++ more) → InOrder cell_key loaded → Differs (own ++ more) loaded fault

-- What is answered of the loaded cells beside the entries: that they follow from the book; or where those that follow from
-- it first differ from them.
abbrev pub ComparesOthers : Book → List Cell → Result (Unit {0}) CellFault → Type 0
ComparesOthers book others (Ok done) = AreDerived book others
ComparesOthers book others (Err fault) = (own : List Cell) × AreDerived book own × Differs own others fault

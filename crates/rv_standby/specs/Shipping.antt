-- What `ship` writes of a book: the cells of its page, that the page is whole, and the cells of its entries, a line each.
use Rattle.std.specs.Prelude.{◌≡◌, ℕ, ◌+◌, ◌≤◌, ◌==◌, List, [], ◌∷◌, ◌++◌, codes, if◌then◌else◌, Result, Ok, Err}
use Rattle.std.specs.List.{flat_map, AllByRecursion}
use Rattle.serde_json.specs.Data.{Data, number, unsigned, string, object, member, no_members}
use Rattle.serde_json.specs.Written.{compact_text}
use Rattle.rv_base.specs.Causes.{Rose}
use Rattle.rv_base.specs.Outside.{OutputState}
use Rattle.rv_base.specs.Writes.{WritesText}
use Rattle.rv_base.specs.declared.fault.Fault.{Fault}
use Rattle.rv_base.specs.declared.fault.Fault.TheVariants.{Failed, Memory}
use Rattle.rv_book.specs.declared.page.Page.{Page}
use Rattle.rv_book.specs.Book.{Book}
use Rattle.rv_keeper.specs.declared.cell.Cell.{Cell}
use Rattle.rv_record.specs.CallTexts.{array_of}
use Rattle.rv_record.specs.CellTexts.{AreTexts}
use Rattle.rv_record.specs.PageCells.{page_cells}
use Rattle.rv_store.specs.StoreCells.{entry_cells}

-- {"cell":[SHELF,KEY,BODY]}
abbrev pub cell_data : Cell → Data
cell_data cell = object (member (codes "cell") (array_of (number (unsigned cell.shelf) ∷ string cell.key ∷ string cell.body ∷ [])) no_members)

-- the line of a cell: its compact JSON, and LF
abbrev pub cell_line : Cell → List ℕ
cell_line cell = compact_text (cell_data cell) ++ codes "\n"

-- that all cells of a page stand before
abbrev pub page_line : List ℕ
page_line = codes "{\"page\":true}\n"

-- the lines of a page; where there is none there are none
abbrev pub page_lines : Page → List ℕ
page_lines page = flat_map cell_line (page_cells page) ++ (if page.at == 0 then [] else page_line)

-- the lines of a book: those of its page, and then a line for each entry
abbrev pub book_lines : Book → List ℕ
book_lines book = page_lines book.page ++ flat_map cell_line (entry_cells (book.page.at + 1) book.entries)

-- the keys and bodies of a book's cells are UTF-8, so its lines are JSON texts
abbrev pub BookIsTexts : Book → Type 0
BookIsTexts book = AllByRecursion AreTexts (page_cells book.page) × AllByRecursion AreTexts (entry_cells (book.page.at + 1) book.entries)

-- the count of faults rises where a write failed, and else stays
abbrev pub HasFailed : ℕ → ℕ → Result (Unit {0}) Fault → Type 0
HasFailed before now (Ok done) = now ≡ before
HasFailed before now (Err Failed) = Rose before now
HasFailed before now (Err Memory) = now ≡ before

-- The text was written; or a write failed, or memory was refused, and a front of it was. The counts do not fall.
pub record Ships (old new : OutputState) (result : Result (Unit {0}) Fault) (text : List ℕ) : Type 0 where
  pub bytes : WritesText old.written new.written result text
  pub cause : HasFailed old.faults new.faults result
  pub faults : old.faults ≤ new.faults
  pub refusals : old.refusals ≤ new.refusals

-- a sink that fails no more goes on so, and a write failed only where memory was refused to it
pub record ShipsSteadily (steady : Type 0) (old new : OutputState) (result : Result (Unit {0}) Fault) : Type 0 where
  pub goes_on : steady
  pub only_memory : result ≡ Err Failed → Rose old.refusals new.refusals

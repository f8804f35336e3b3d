-- The cells that a book is kept as: one for each entry, for each row with its version, for each client and each group of the book, and for the
-- view record of each kept look; and those of the page that the book opens with, if it has one. Beside them stands the generation, which is how
-- long the book is.
use Rattle.std.specs.Prelude.{◌≡◌, ℕ, ◌+◌, ◌⊎◌, List, [], ◌∷◌, ◌++◌, map}
use Rattle.rv_rows.specs.Held.{Stored}
use Rattle.rv_book.specs.declared.entry.Entry.{Entry}
use Rattle.rv_book.specs.Book.{Book, size}
use Rattle.rv_book.specs.Registers.{clients_of, groups_of}
use Rattle.rv_history.specs.Replay.{IsReplay}
use Rattle.rv_history.specs.Served.{Doubt, with_doubt}
use Rattle.rv_news.specs.Records.{Placed, AreRecords}
use Rattle.rv_keeper.specs.declared.cell.Cell.{Cell}
use Rattle.rv_keeper.specs.declared.loaded.Loaded.{Loaded}
use Rattle.rv_record.specs.PageCells.{page_cells}
use Rattle.rv_record.specs.CellTexts.{entry_cell, row_cell, client_cell, group_cell, view_cell}

-- the entries, each under its place, of which the first is this
abbrev pub entry_cells : ℕ → List Entry → List Cell
entry_cells place [] = []
entry_cells place (entry ∷ entries) = entry_cell place entry ∷ entry_cells (place + 1) entries

abbrev pub row_cells : List Stored → List Cell
row_cells rows = map (λ s. row_cell s.0 s.1) rows

abbrev pub client_cells : Book → List Cell
client_cells book = map (λ c. client_cell c.0 c.1 c.2) (clients_of book)

abbrev pub group_cells : Book → List Cell
group_cells book = map (λ g. group_cell g.0 g.1 g.2 g.3) (groups_of book)

abbrev pub view_cells : List Placed → List Cell
view_cells records = map (λ r. view_cell r.0 r.1) records

-- what stands beside the entries and the page: it follows from them
abbrev pub derived_cells : Book → List Stored → List Placed → List Cell
derived_cells book rows records = row_cells rows ++ (client_cells book ++ (group_cells book ++ view_cells records))

abbrev pub cells_of : Book → List Stored → List Placed → List Cell
cells_of book rows records = entry_cells (book.page.at + 1) book.entries ++ (derived_cells book rows records ++ page_cells book.page)

-- these cells follow from the book: its rows and its records are those of its replay
pub record AreDerived (book : Book) (cells : List Cell) : Type 0 where
  pub rows : List Stored
  pub records : List Placed
  pub replay : IsReplay book rows
  pub kept : AreRecords book records
  pub made : cells ≡ derived_cells book rows records

-- these are the cells of the book
pub record AreCellsOf (book : Book) (cells : List Cell) : Type 0 where
  pub rows : List Stored
  pub records : List Placed
  pub replay : IsReplay book rows
  pub kept : AreRecords book records
  pub made : cells ≡ cells_of book rows records

-- the book is kept as these cells and this generation
pub record IsKeptAs (book : Book) (loaded : Loaded) : Type 0 where
  pub cells : AreCellsOf book loaded.cells
  pub generation : loaded.generation ≡ size book

-- what is kept is the book, or the book with what is in doubt
abbrev pub IsKeptWith : Book → Doubt → Loaded → Type 0
IsKeptWith book doubt held = IsKeptAs book held ⊎ IsKeptAs (with_doubt book doubt) held

-- What follows for a follower that is given the lines of a book: it is always at a front of that book, and nothing of the book is refused.
use Rattle.std.specs.Prelude.{◌≡◌, ◌⊎◌, ℕ, ◌+◌, ◌^◌, ◌<◌, ◌≤◌, ◌==◌, List, [], ◌∷◌, ◌++◌, Option, Some, None, map, codes, if◌then◌else◌, Result, Ok, Err}
use Rattle.serde_json.specs.Written.{compact_text}
use Rattle.rv_lines.specs.Lines.{ended_lines_of}
use Rattle.rv_book.specs.declared.entry.Entry.{Entry}
use Rattle.rv_book.specs.Book.{Book, empty_book, size, with_entries}
use Rattle.rv_keeper.specs.declared.cell.Cell.{Cell}
use Rattle.rv_record.specs.CellTexts.{AreTexts}
use Rattle.rv_record.specs.PageCells.{page_cells}
use Rattle.rv_store.specs.Opening.{IsSoundBook}
use Rattle.rv_store.specs.StoreCells.{entry_cells}
use Rattle.rv_answering.specs.declared.answer.Answer.{Answer}
use Rattle.rv_standby.specs.Shipping.{BookIsTexts, book_lines, cell_data}
use Rattle.rv_standby.specs.declared.take_fault.TakeFault.{TakeFault}
use Rattle.rv_standby.specs.declared.take_fault.TakeFault.TheVariants as faults
use Rattle.rv_following.specs.declared.follow_line.FollowLine.{FollowLine}
use Rattle.rv_following.specs.declared.follow_line.FollowLine.TheVariants as lines
use Rattle.rv_following.specs.FollowLines.{follow_line_of}
use Rattle.rv_following.specs.FollowSteps.{Following, Follows}

-- ---- Lines.

-- the line of a cell whose key and body are texts is read as that cell
abbrev pub CellsAreRead : Type 0
CellsAreRead = (cell : Cell) → cell.shelf < 2 ^ 8 → AreTexts cell → follow_line_of (compact_text (cell_data cell)) ≡ Some (lines.Cell cell)

-- and the line of a whole page as that
abbrev pub WholePagesAreRead : Type 0
WholePagesAreRead = follow_line_of (codes "{\"page\":true}") ≡ Some lines.Page

-- ---- What is taken.

-- what the lines of cells are
abbrev pub cells_say : List Cell → List FollowLine
cells_say cells = map (λ cell. lines.Cell cell) cells

-- what the lines of a book are: those of its page's cells, that the page is whole, and those of its entries' cells
abbrev pub book_says : Book → List FollowLine
book_says book = cells_say (page_cells book.page) ++ ((if book.page.at == 0 then [] else lines.Page ∷ []) ++ cells_say (entry_cells (book.page.at + 1) book.entries))

-- lines are taken one after another, and none of them is answered
abbrev pub TakesEach : Following → List FollowLine → Following → Type 0
TakesEach old [] new = new ≡ old
TakesEach old (line ∷ more) new = (mid : Following) × Follows old line (Ok None) mid × TakesEach mid more new

-- the follower of no line yet
abbrev pub beginning : ℕ → Following
beginning limit = record { book = empty_book; limit = limit; gathered = [] }

-- A follower stands so, with these lines of the book to come: it has gathered some cells of the page; or its book is a front of the book.
pub data StandsAt (limit : ℕ) (book : Book) (state : Following) (rest : List FollowLine) : Type 0 where
  gathers : (front back : List Cell) → 1 ≤ book.page.at → page_cells book.page ≡ front ++ back → state ≡ record { book = empty_book; limit = limit; gathered = front }
      → rest ≡ cells_say back ++ lines.Page ∷ cells_say (entry_cells (book.page.at + 1) book.entries) → StandsAt limit book state rest
  follows : (front : Book) (more : List Entry) → book ≡ with_entries front more → state ≡ record { book = front; limit = limit; gathered = [] }
      → rest ≡ cells_say (entry_cells (size front + 1) more) → StandsAt limit book state rest

-- After the first lines of a sound book, as many as there may be, a follower stands so, with the others to come.
abbrev pub LinesAreFollowed : Type 0
LinesAreFollowed = (limit : ℕ) (book : Book) (taken rest : List FollowLine) (state : Following) → limit < 2 ^ 32 → IsSoundBook limit book → book_says book ≡ taken ++ rest → TakesEach (beginning limit) taken state → StandsAt limit book state rest

-- And the next line is never refused: it is taken, or memory was refused.
abbrev pub NoLineIsRefused : Type 0
NoLineIsRefused = (limit : ℕ) (book : Book) (state new : Following) (line : FollowLine) (rest : List FollowLine) (result : Result (Option Answer) TakeFault)
    → limit < 2 ^ 32 → IsSoundBook limit book → StandsAt limit book state (line ∷ rest) → Follows state line result new
    → ((result ≡ Ok None) × StandsAt limit book new rest) ⊎ ((result ≡ Err faults.Memory) × (new ≡ state))

-- ---- The bytes that `ship` writes.

-- These bytes begin the lines of the book, whose cells are texts.
abbrev pub AreTheLinesOf : Book → List ℕ → List ℕ → Type 0
AreTheLinesOf book front back = BookIsTexts book × (book_lines book ≡ front ++ back)

-- the lines that end in these bytes are read as the first of these
abbrev pub ReadAsFirst : List FollowLine → List ℕ → Type 0
ReadAsFirst said bytes = (taken : List FollowLine) × (rest : List FollowLine) × (said ≡ taken ++ rest) × (map follow_line_of (ended_lines_of bytes) ≡ map (λ line. Some line) taken)

-- Wherever the lines of a book are cut, those that end before are read as the first of what the book says.
abbrev pub ShippedLinesAreRead : Type 0
ShippedLinesAreRead = (book : Book) (front back : List ℕ) → AreTheLinesOf book front back → ReadAsFirst (book_says book) front

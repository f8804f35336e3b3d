-- The state of one server in memory, as contracts see it.
use Rattle.std.specs.Prelude.{ℕ, ◌≤◌, ◌<◌, ◌^◌, List}
use Rattle.rv_rows.specs.Held.{Stored}
use Rattle.rv_book.specs.Book.{Book, size}
use Rattle.rv_news.specs.Records.{Placed}
use Rattle.rv_state.specs.UserMarks.{UserMark}

-- the book with the most entries that it may have, its rows with their versions, the records of its kept looks, and its users' marks; and
-- beside each a lower bound of what has space
pub record Standing : Type 0 where
  pub book : Book
  pub limit : ℕ
  pub spare_entries : ℕ
  pub rows : List Stored
  pub spare_rows : ℕ
  pub records : List Placed
  pub spare_views : ℕ
  pub marks : List UserMark
  pub spare_marks : ℕ

-- a book is no longer than it may become, and that is a place
abbrev pub IsWithin : Book → ℕ → Type 0
IsWithin book limit = (size book ≤ limit) × (limit < 2 ^ 32)

-- Users with their marks, in the order of the users' bytes.
use Rattle.std.specs.Prelude.{ℕ, List}
use Rattle.std.specs.Option.{option_map_or}
use Rattle.rv_base.specs.Sorted.{find_by, put_by, InOrder}
use Rattle.rv_book.specs.Book.{Book}
use Rattle.rv_history.specs.Marks.{IsMark}

-- a user with a mark
abbrev pub UserMark : Type 0
UserMark = List ℕ × ℕ

abbrev pub marked_user : UserMark → List ℕ
marked_user marked = marked.0

-- the user's mark, or this least one where there is none
abbrev pub mark_in : ℕ → List ℕ → List UserMark → ℕ
mark_in least user marks = option_map_or (λ marked. marked.1) (find_by marked_user user marks) least

-- the marks where this is the user's
abbrev pub with_mark : ℕ → List UserMark → List ℕ → List UserMark
with_mark mark marks user = put_by marked_user (user, mark) marks

-- These are the marks of all users at the book. A user without one has the place of the book's page.
pub record AreMarks (book : Book) (marks : List UserMark) : Type 0 where
  pub order : InOrder marked_user marks
  pub each : (user : List ℕ) → IsMark user book (mark_in book.page.at user marks)

-- marks, and the space that there is beside them, as contracts see them
pub record Marked : Type 0 where
  pub marks : List UserMark
  pub spare : ℕ

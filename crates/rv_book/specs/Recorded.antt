-- A book, as contracts see it.
use Rattle.std.specs.Prelude.{ℕ, ◌-◌, vec_len, vec_capacity}
use Rattle.std.specs.declared.vec.Vec.{Vec}
use Rattle.rv_book.specs.Book.{Book}

-- the book, how long it may be at most, and a lower bound of the entries that have space
pub record Recorded : Type 0 where
  pub book : Book
  pub limit : ℕ
  pub spare : ℕ

-- how many more elements a list has space for
abbrev pub free : {X Z : Type 0} → Vec X Z → ℕ
free list = vec_capacity list - vec_len list

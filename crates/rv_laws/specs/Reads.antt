-- What a pull reads of a push that came before it.
use Rattle.std.specs.Prelude.{ℕ, ◌≤◌, List, Contains}
use Rattle.std.specs.List.{AllByRecursion}
use Rattle.rv_book.specs.Book.{Book, ids}
use Rattle.rv_history.specs.Properties.{IsEntered}
use Rattle.rv_turns.specs.Asks.{Sender}
use Rattle.rv_turns.specs.declared.mutation.Mutation.{Mutation}
use Rattle.rv_wire.specs.declared.push.Push as pushes

-- The mutation stands in the book, and among the last mutation ids of its group there its client has one that is not below its own.
pub record IsRead (from : Sender) (book : Book) (m : Mutation) : Type 0 where
  pub entered : IsEntered from book m
  pub last : ℕ
  pub there : Contains (ids from.group book) (m.client, last)
  pub reached : m.id ≤ last

-- So does each mutation of the push; but for an id of 0, which is skipped and stands nowhere.
abbrev pub AllRead : List ℕ → pushes.Push → Book → Type 0
AllRead user push book = AllByRecursion (λ m. 1 ≤ m.id → IsRead (record { user = user; group = push.group }) book m) push.mutations

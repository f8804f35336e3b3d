-- What a seat is told when it asks for a user's mark.
use Rattle.std.specs.Prelude.{◌≡◌, ℕ, List, [], ◌∷◌, ◌++◌, Some}
use Rattle.rv_book.specs.Book.{size, Extends}
use Rattle.rv_history.specs.Marks.{IsMark}
use Rattle.rv_keeper.specs.declared.keeper.Keeper.{Ghosts}
use Rattle.rv_doubt.specs.Kept.{KeepsBook}
use Rattle.rv_desk.specs.DeskStates.{DeskState}
use Rattle.rv_room.specs.declared.view.SeatView.{SeatView}
use Rattle.rv_room.specs.Following.{FollowsAll}
use Rattle.rv_room.specs.Rule.{Keeps}

-- A mark that a seat is told, by what it knows before and after: it is the user's in the book of a desk, as the desk in the room stood, which
-- the seat has for a turn and leaves as it is. That desk is of the room as in a turn of the seat, its keeper keeps its book, and that goes on
-- from what the seat had seen. Then the seat has seen that book; it has nothing more of its own.
pub record IsSeatMark {K : Type 0} (G : Ghosts K) (old : SeatView K) (user : List ℕ) (mark : ℕ) (new : SeatView K) : Type 0 where
  pub opened : DeskState K
  pub desk : DeskState K
  pub room : old.opened ≡ Some opened
  pub keeps : Keeps G opened desk
  pub begins : Extends desk.book old.seen
  pub follows : FollowsAll G old.after desk.keeper
  pub marks : IsMark user desk.book mark
  pub kept : KeepsBook G desk.keeper desk.book desk.doubt
  pub stays : new.opened ≡ old.opened
  pub seen : new.seen ≡ desk.book
  pub ends : new.ends ≡ old.ends ++ size desk.book ∷ []
  pub own : new.own ≡ old.own
  pub settled : new.settled ≡ old.settled
  pub left : new.left ≡ old.left
  pub before : new.before ≡ old.before ++ G.faults desk.keeper ∷ []
  pub after : new.after ≡ old.after ++ desk.keeper ∷ []

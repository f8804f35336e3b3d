-- What a turn of a seat is.
use Rattle.std.specs.Prelude.{◌≡◌, ℕ, ◌+◌, ◌≤◌, ◌<◌, ◌^◌, length, [], ◌∷◌, ◌++◌, Some}
use Rattle.rv_book.specs.Book.{size, since, Extends}
use Rattle.rv_turns.specs.Asks.{Ask, IsClosing}
use Rattle.rv_turns.specs.declared.pushing.Outcome.{Outcome}
use Rattle.rv_history.specs.Reading.{turn_steps}
use Rattle.rv_keeper.specs.declared.keeper.Keeper.{Ghosts}
use Rattle.rv_desk.specs.DeskStates.{DeskTakes, DeskState}
use Rattle.rv_room.specs.declared.view.SeatView.{SeatView}
use Rattle.rv_room.specs.Following.{FollowsAll}
use Rattle.rv_room.specs.Lists.{numbered}
use Rattle.rv_room.specs.Rule.{Keeps}
use Rattle.rv_room.specs.Views.{option_items}

-- A turn of a seat, by what it knows before and after: it is a turn of a desk, as the desk in the room stood, and asks anything but that the
-- book be closed. That desk keeps the limit of the one that the room was opened with, no closing is in doubt at it, and its keeper follows
-- that one's, and each that the seat remembers; its book goes on from what the seat had seen. Then the seat has seen the book as the turn ended; has as its own what settling added and what the step added, each with the
-- number of entries before it; and remembers what it left in doubt, the keeper as it was then, and the rest. That the desk is that of the
-- room, the rule of its table says.
pub record IsSeatTurn {K : Type 0} (G : Ghosts K) (old : SeatView K) (ask : Ask) (outcome : Outcome) (new : SeatView K) : Type 0 where
  pub opened : DeskState K
  pub desk : DeskState K
  pub now : DeskState K
  pub room : old.opened ≡ Some opened
  pub keeps : Keeps G opened desk
  pub begins : Extends desk.book old.seen
  pub follows : FollowsAll G old.after desk.keeper
  pub asks : ¬ IsClosing ask
  pub takes : DeskTakes G desk ask outcome now
  pub stays : new.opened ≡ old.opened
  pub seen : new.seen ≡ now.book
  pub ends : new.ends ≡ old.ends ++ size now.book ∷ []
  pub own : new.own ≡ (old.own ++ numbered (size desk.book) (since (size desk.book) takes.turn.settled)) ++ numbered (size takes.turn.settled) (since (size takes.turn.settled) now.book)
  pub settled : new.settled ≡ old.settled ++ since (size desk.book) takes.turn.settled
  pub left : new.left ≡ old.left ++ option_items takes.turn.left
  pub before : new.before ≡ old.before ++ G.faults desk.keeper ∷ []
  pub after : new.after ≡ old.after ++ now.keeper ∷ []

-- how many entries that had been in doubt the turns of a seat have entered
abbrev pub settled_by : {K : Type 0} → SeatView K → ℕ
settled_by v = length v.settled

-- Of a turn of a seat: it entered so many entries that had been in doubt, and what the seat has seen is longer by that at least.
pub record SettlesSo {K : Type 0} (old : SeatView K) (settled : ℕ) (new : SeatView K) : Type 0 where
  pub count : settled_by new ≡ settled_by old + settled
  pub seen : size old.seen + settled ≤ size new.seen
  pub few : size new.seen < 2 ^ 32

-- The same with the steps that were counted before it and after: at most as many were taken as the walks of what is asked have entries
-- at the book as it settled.
abbrev pub IsSeatTurnWithin : {K : Type 0} → Ghosts K → SeatView K → Ask → Outcome → SeatView K → ℕ → ℕ → Type 0
IsSeatTurnWithin G old ask outcome new before after = (taken : IsSeatTurn G old ask outcome new) × (after ≤ before + turn_steps ask taken.takes.turn.settled)

-- A seat that only looks.
use Rattle.std.specs.Prelude.{◌≡◌}
use Rattle.rv_room.specs.declared.view.SeatView.{SeatView}

-- what a seat has of its own is as it was: it has entered nothing, settled nothing, and left nothing in doubt
pub record HasEnteredNothing {K : Type 0} (old new : SeatView K) : Type 0 where
  pub own : new.own ≡ old.own
  pub settled : new.settled ≡ old.settled
  pub left : new.left ≡ old.left

-- Rooms, and seats as a room hands them out.
use Rattle.std.specs.Prelude.{◌≡◌, ℕ, List}
use Rattle.std.specs.List.{AllByRecursion}
use Rattle.atomic_table.specs.Seated.{TableId}
use Rattle.rv_keeper.specs.declared.keeper.Keeper.{Ghosts}
use Rattle.rv_desk.specs.DeskStates.{DeskState}
use Rattle.rv_room.specs.declared.room.Room.{Room}
use Rattle.rv_room.specs.declared.seat.Seat.{Seat}
use Rattle.rv_room.specs.declared.view.SeatView.{SeatView}
use Rattle.rv_room.specs.Views.{newcomer}

module _ {K : Type 0} where
  -- which room it is
  abbrev pub id_of : Room K → TableId
  id_of room = room.table.shared.table_id

  -- how many seats it was opened with, and the desk as it was then
  abbrev pub seats_of : Room K → ℕ
  seats_of room = room.table.shared.key.seats

  abbrev pub opened_of : Room K → DeskState K
  opened_of room = room.table.shared.key.opened.value

module _ {K : Type 0} {G : Ghosts K} where
  -- which room's seat it is
  abbrev pub room_of : Seat K G → TableId
  room_of seat = seat.token.table_id

  -- what a seat knows
  abbrev pub view_of : Seat K G → SeatView K
  view_of seat = seat.token.me.0

-- each is a seat of this room
abbrev pub AllOf : {K : Type 0} {G : Ghosts K} → TableId → List (Seat K G) → Type 0
AllOf {K} {G} id seats = AllByRecursion (λ (seat : Seat K G). room_of seat ≡ id) seats

-- each is a seat of this room which has had no turn
abbrev pub AllNew : {K : Type 0} {G : Ghosts K} → TableId → DeskState K → List (Seat K G) → Type 0
AllNew {K} {G} id opened seats = AllByRecursion (λ (seat : Seat K G). (room_of seat ≡ id) × (view_of seat ≡ newcomer 1 opened)) seats

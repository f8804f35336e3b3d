-- What holds of seats that are taken from a list and given back to one.
use Rattle.std.proofs.Common.{◌≡◌, List, [], ◌∷◌, ◌++◌, subst}
use Rattle.atomic_table.specs.Seated.{TableId}
use Rattle.rv_keeper.specs.declared.keeper.Keeper.{Ghosts}
use Rattle.rv_desk.specs.DeskStates.{DeskState}
use Rattle.rv_room.specs.declared.seat.Seat.{Seat}
use Rattle.rv_room.specs.Seats.{room_of, view_of, AllOf, AllNew}
use Rattle.rv_room.specs.Views.{newcomer}

module _ {K : Type 0} {G : Ghosts K} where
  -- what holds of all holds of the last, and of those before it
  pub last_new : (id : TableId) (opened : DeskState K) (all rest : List (Seat K G)) (last : Seat K G) → all ≡ rest ++ last ∷ [] → AllNew id opened all → AllNew id opened rest × ((room_of last ≡ id) × (view_of last ≡ newcomer 1 opened))
  last_new id opened all rest last is each = go rest (subst (AllNew id opened) is each)
    where
      go : (rest : List (Seat K G)) → AllNew id opened (rest ++ last ∷ []) → AllNew id opened rest × ((room_of last ≡ id) × (view_of last ≡ newcomer 1 opened))
      go [] e = (tt, e.0)
      go (seat ∷ seats) e = let r = go seats e.1 in ((e.0, r.0), r.1)

  -- one more seat
  pub more_of : (id : TableId) (seats : List (Seat K G)) (seat : Seat K G) → AllOf id seats → room_of seat ≡ id → AllOf id (seats ++ seat ∷ [])
  more_of id [] seat e is = (is, tt)
  more_of id (other ∷ seats) seat e is = (e.0, more_of id seats seat e.1 is)

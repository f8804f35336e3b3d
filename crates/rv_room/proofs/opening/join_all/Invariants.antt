use Rattle.std.proofs.Common.{◌≡◌, ◌++◌, List, [], map, vec_len}
use Rattle.rv_room.specs.declared.view.SeatView.{SeatView}
use Rattle.rv_room.specs.Closing.{gather}
use Rattle.rv_room.specs.Seats.{view_of, AllOf}
use Rattle.rv_room.proofs.opening.join_all.Given as goal

abbrev pub invariant-loop-seat : goal.invariant-loop-seat
invariant-loop-seat g l = (l.first.table_id ≡ l.shared.table_id)
    × AllOf l.shared.table_id l.list.items
    × ((done : List (SeatView g.row.K.Denot)) × (map view_of l.list.items ++ done ≡ map view_of l.fn.list.items) × (l.first.me ≡ (gather l.fn.first.me.0 done, [])))

abbrev pub decreases-loop-seat : goal.decreases-loop-seat
decreases-loop-seat g l = vec_len l.list

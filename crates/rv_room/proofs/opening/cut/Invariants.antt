use Rattle.std.proofs.Common.{◌≡◌, ◌+◌, ◌-◌, ◌≤◌, [], vec_len}
use Rattle.std.specs.Prelude.{vec_capacity}
use Rattle.rv_room.specs.Views.{newcomer}
use Rattle.rv_room.specs.Seats.{AllNew}
use Rattle.rv_room.proofs.opening.cut.Given as goal

abbrev pub invariant-loop-number : goal.invariant-loop-number
invariant-loop-number g l = (l.first.table_id ≡ l.shared.table_id)
    × (l.first.me ≡ (newcomer (l.seats + 1 - l.number) l.shared.key.opened.value, []))
    × (vec_len l.list + 1 ≡ l.number)
    × (l.seats ≤ vec_capacity l.list)
    × AllNew l.shared.table_id l.shared.key.opened.value l.list.items

use Rattle.std.proofs.Common.{◌≡◌}
use Rattle.rv_room.proofs.room.Room.spin_for_ticket.Given as goal

abbrev pub invariant-loop : goal.invariant-loop
invariant-loop g l = (l.token.table_id ≡ l.fn.token.table_id) × (l.token.id ≡ l.fn.token.id) × (l.token.me ≡ l.fn.token.me)

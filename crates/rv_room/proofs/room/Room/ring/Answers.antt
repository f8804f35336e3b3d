use Rattle.std.proofs.Common.{◌+◌, ◌%◌, ◌^◌, arith}
use Rattle.rv_room.proofs.Moves.{signals_at}
use Rattle.rv_room.proofs.room.Room.ring.Goals as goal

pub fetch_add-requires : goal.fetch_add-requires
fetch_add-requires g c = let b = c.bell_of-bell.ensures in (c.requires.table, omega (arith, c.args.self.now.sized.0, b), signals_at g.K.Keeper _ _ _ _ _ (2 + c.args.ticket % 16) _ _ (λ n. (n + 1) % 2 ^ 64) (omega (arith, b)))

use Rattle.std.proofs.Common.{◌+◌, ◌%◌, ◌^◌, arith, refl}
use Rattle.rv_room.proofs.Moves.{signals_at}
use Rattle.rv_room.proofs.room.Room.wake_sleeper.Goals as goal

pub fetch_add-requires : goal.fetch_add-requires
fetch_add-requires g c = (c.requires.table, omega (arith, c.args.self.now.sized.0), signals_at g.K.Keeper _ _ _ _ _ 1 _ _ (λ n. (n + 1) % 2 ^ 64) refl)

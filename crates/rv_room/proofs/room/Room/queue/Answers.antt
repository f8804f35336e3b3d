use Rattle.std.proofs.Common.{arith}
use Rattle.rv_room.proofs.Moves.{takes_ticket}
use Rattle.rv_room.proofs.room.Room.queue.Goals as goal

pub fetch_add-requires : goal.fetch_add-requires
fetch_add-requires g c = (c.requires.table, omega (arith, c.args.self.now.sized.0), takes_ticket g.K.Keeper _ _ _ _ _ _ c.requires.idle.0 c.requires.idle.1)

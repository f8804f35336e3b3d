use Rattle.std.proofs.Common.{arith, refl}
use Rattle.rv_room.proofs.Moves.{takes_if_next}
use Rattle.rv_room.proofs.room.Room.take_free_ticket.Goals as goal

pub compare_exchange-was-requires : goal.compare_exchange-was-requires
compare_exchange-was-requires g c = (c.requires.table, omega (arith, c.args.self.now.sized.0), takes_if_next g.K.Keeper _ _ _ _ _ _ c.requires.idle.0 c.requires.idle.1 _ _ refl)

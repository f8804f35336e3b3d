use Rattle.std.proofs.Common.{arith}
use Rattle.rv_room.proofs.Moves.{passes_as}
use Rattle.rv_room.proofs.room.Room.pass.Goals as goal

pub fetch_add-ended-requires : goal.fetch_add-ended-requires
fetch_add-ended-requires g c = let r = c.requires.home in (c.requires.table, omega (arith, c.args.self.now.sized.0), passes_as g.K.Keeper _ _ _ _ _ _ r.0 r.1 r.3.0 r.2 r.3.1 r.3.2 r.3.3)

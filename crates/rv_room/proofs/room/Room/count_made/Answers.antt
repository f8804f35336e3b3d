use Rattle.std.proofs.Common.{arith}
use Rattle.rv_room.proofs.Moves.{counts_made_as}
use Rattle.rv_room.proofs.room.Room.count_made.Goals as goal

pub fetch_add-requires : goal.fetch_add-requires
fetch_add-requires g c = let r = c.requires.grown in (c.requires.table, omega (arith, c.args.self.now.sized.0), counts_made_as g.K.Keeper _ _ _ _ _ _ r.0 r.1 r.2 r.3 r.4 r.5)

use Rattle.std.proofs.Common.{arith}
use Rattle.rv_room.proofs.Moves.{notes_settled_as}
use Rattle.rv_room.proofs.room.Room.note_settled.Goals as goal

pub load-requires : goal.load-requires
load-requires g c = let r = c.requires.carries in (c.requires.table, omega (arith, c.args.self.now.sized.0), notes_settled_as g.K.Keeper _ _ _ _ _ _ r.0 r.1 r.2 r.3)

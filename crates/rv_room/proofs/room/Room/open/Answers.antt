use Rattle.std.proofs.Common.{rules, sym}
use Rattle.rv_room.proofs.Ways.{begins_as}
use Rattle.rv_room.proofs.room.Room.open.Goals as goal

pub new-requires-2 : goal.new-requires-2
new-requires-2 g c = begins_as g.K.Keeper _ _ _ c.args.desk _ _ (search rules) (sym c.of.ensures) c.requires.1 (search rules) (search rules)

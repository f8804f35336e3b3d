use Rattle.std.proofs.Common.{arith, ap}
use Rattle.rv_room.proofs.Ways.{splits_as}
use Rattle.rv_room.proofs.opening.cut.Goals as goal

pub split_seat-token-requires : goal.split_seat-token-requires
split_seat-token-requires g c = let i = c.loop-number.invariant in (i.0, c.requires.table.1, splits_as g.K.Keeper _ _ _ _ _ (ap (λ m. m.0) i.1) (omega arith))

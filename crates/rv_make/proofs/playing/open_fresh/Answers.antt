use Rattle.rv_make.proofs.Fresh.{fresh_opened, fresh_sound}
use Rattle.rv_make.proofs.playing.open_fresh.Goals as goal

pub unreachable-requires-in-Err-Damaged-default : goal.unreachable-requires-in-Err-Damaged-default
unreachable-requires-in-Err-Damaged-default g c =
    let refused = rw c.in-Err-Damaged-default.field-0-0-is at c.in-Err-Damaged-default.ensures in
    fresh_sound g.K.Keeper g.met.K.Keeper.steady_tells c.args.keeper c.requires.holds c.requires.steady _ _ refused.0 refused.1

pub returns-in-Ok-clause-fresh : goal.returns-in-Ok-clause-fresh
returns-in-Ok-clause-fresh g c = fresh_opened g.K.Keeper g.met.K.Keeper.steady_tells c.args.keeper c.requires.holds c.requires.steady c.in-Ok.desk c.requires.faults c.in-Ok.ensures

use Rattle.rv_sqlite.proofs.NextRuns.{opens_what_is_left}
use Rattle.rv_sqlite.proofs.laws.crashes_are_opened.Goals as goal

pub returns : goal.returns
returns g c = opens_what_is_left c.args.before.now c.args._opened.now c.recall.ensures

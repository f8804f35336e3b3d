use Rattle.rv_serve.specs.RunLaws.{talk_runs}
use Rattle.rv_serve.proofs.laws.talks_are_runs.Goals as goal

pub returns : goal.returns
returns g c = talk_runs g.T.Turns.takes

use Rattle.rv_serve.specs.RunLaws.{conns_run}
use Rattle.rv_serve.proofs.laws.conns_are_runs.Goals as goal

pub returns : goal.returns
returns g c = conns_run g.T.Turns.takes g.L.In.Source g.L.Out.Sink

use Rattle.rv_laws.proofs.FedRuns.{feeds_are_runs}
use Rattle.rv_laws.proofs.feed.feeds_are_runs.Goals as goal

pub returns : goal.returns
returns g c = feeds_are_runs g.P.Place g.S.Source g.O.Sink

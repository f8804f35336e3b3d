use Rattle.rv_laws.proofs.FedRuns.{replies_are_runs}
use Rattle.rv_laws.proofs.feed.replies_are_runs.Goals as goal

pub returns : goal.returns
returns g c = replies_are_runs g.P.Place g.O.Sink

use Rattle.rv_laws.proofs.ServeRuns.{writes_are_read}
use Rattle.rv_laws.proofs.serve.writes_are_read.Goals as goal

pub returns : goal.returns
returns g c = writes_are_read g.P.Place g.K.Keeper g.N.Net g.L.Listen g.L.In.Source g.L.Out.Sink c.writes_are_read.ensures

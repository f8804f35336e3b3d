use Rattle.rv_laws.proofs.ServeRuns.{troubles_have_causes}
use Rattle.rv_laws.proofs.serve.troubles_have_causes.Goals as goal

pub returns : goal.returns
returns g c = troubles_have_causes g.P.Place g.K.Keeper g.N.Net g.L.Listen g.L.In.Source g.L.Out.Sink c.troubles_have_causes.ensures

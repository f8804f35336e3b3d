use Rattle.rv_laws.proofs.ServeRuns.{pushes_stand}
use Rattle.rv_laws.proofs.serve.pushes_stand.Goals as goal

pub returns : goal.returns
returns g c = pushes_stand g.P.Place g.K.Keeper g.N.Net g.L.Listen g.L.In.Source g.L.Out.Sink c.pushes_stand.ensures

use Rattle.rv_laws.proofs.ServeRuns.{keepers_stay}
use Rattle.rv_laws.proofs.serve.keepers_stay.Goals as goal

pub returns : goal.returns
returns g c = keepers_stay g.P.Place g.K.Keeper g.N.Net g.L.Listen g.L.In.Source g.L.Out.Sink c.keepers_stay.ensures

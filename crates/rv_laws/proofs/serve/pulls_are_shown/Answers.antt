use Rattle.rv_laws.proofs.ServeRuns.{pulls_are_shown}
use Rattle.rv_laws.proofs.serve.pulls_are_shown.Goals as goal

pub returns : goal.returns
returns g c = pulls_are_shown g.P.Place g.K.Keeper g.N.Net g.L.Listen g.L.In.Source g.L.Out.Sink c.pulls_are_shown.ensures

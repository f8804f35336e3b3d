use Rattle.rv_laws.proofs.ServeRuns.{serves_are_runs}
use Rattle.rv_laws.proofs.serve.serves_are_runs.Goals as goal

pub returns : goal.returns
returns g c = serves_are_runs g.P.Place g.K.Keeper g.N.Net g.L.Listen g.L.In.Source g.L.Out.Sink g.W.PokeListen g.W.Link.PokeLink g.O.Sink

use Rattle.rv_laws.proofs.ServeRuns.{clients_follow}
use Rattle.rv_laws.proofs.serve.clients_follow.Goals as goal

pub returns : goal.returns
returns g c = clients_follow g.P.Place g.K.Keeper g.N.Net g.L.Listen g.L.In.Source g.L.Out.Sink c.books_are_lawful.ensures c.clients_follow.ensures

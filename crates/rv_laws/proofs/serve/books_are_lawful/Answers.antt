use Rattle.rv_laws.proofs.ServeRuns.{books_are_lawful}
use Rattle.rv_laws.proofs.serve.books_are_lawful.Goals as goal

pub returns : goal.returns
returns g c = books_are_lawful g.P.Place g.K.Keeper g.N.Net g.L.Listen g.L.In.Source g.L.Out.Sink c.books_are_lawful.ensures

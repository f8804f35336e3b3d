use Rattle.rv_laws.proofs.FedLaws.{books_are_lawful}
use Rattle.rv_laws.proofs.feed.books_are_lawful.Goals as goal

pub returns : goal.returns
returns g c = books_are_lawful g.P.Place c.books_are_lawful.ensures

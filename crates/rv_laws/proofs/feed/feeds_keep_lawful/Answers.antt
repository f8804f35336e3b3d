use Rattle.rv_laws.proofs.FedLaws.{feeds_keep_lawful}
use Rattle.rv_laws.proofs.feed.feeds_keep_lawful.Goals as goal

pub returns : goal.returns
returns g c = feeds_keep_lawful g.P.Place g.S.Source g.O.Sink c.books_are_lawful.ensures

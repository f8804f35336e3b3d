use Rattle.rv_laws.proofs.FedLaws.{pushes_stand}
use Rattle.rv_laws.proofs.feed.pushes_stand.Goals as goal

pub returns : goal.returns
returns g c = pushes_stand g.P.Place c.books_are_lawful.ensures c.steps_stand.ensures c.mutations_stay.ensures

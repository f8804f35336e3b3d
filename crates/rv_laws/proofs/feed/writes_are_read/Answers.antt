use Rattle.rv_laws.proofs.FedLaws.{writes_are_read}
use Rattle.rv_laws.proofs.feed.writes_are_read.Goals as goal

pub returns : goal.returns
returns g c = writes_are_read g.P.Place c.books_are_lawful.ensures c.pulls_are_shown.ensures c.steps_stand.ensures c.mutations_stay.ensures

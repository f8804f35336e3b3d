use Rattle.rv_wire.specs.Answers.{pull_json}
use Rattle.rv_laws.proofs.FedLaws.{clients_follow}
use Rattle.rv_laws.proofs.feed.clients_follow.Goals as goal

pub returns : goal.returns
returns g c = clients_follow g.P.Place c.books_are_lawful.ensures c.steps_show.ensures c.closed_books_are_successive.ensures (c.clients_follow_on.ensures pull_json)

use Rattle.rv_laws.proofs.FedLaws.{pulls_are_shown}
use Rattle.rv_laws.proofs.feed.pulls_are_shown.Goals as goal

pub returns : goal.returns
returns g c = pulls_are_shown g.P.Place c.pulls_are_shown.ensures

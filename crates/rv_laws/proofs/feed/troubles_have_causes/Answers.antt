use Rattle.rv_laws.proofs.FedLaws.{troubles_have_causes}
use Rattle.rv_laws.proofs.feed.troubles_have_causes.Goals as goal

pub returns : goal.returns
returns g c = troubles_have_causes g.P.Place c.troubles_have_causes.ensures

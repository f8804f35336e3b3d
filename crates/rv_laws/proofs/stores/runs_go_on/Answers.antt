use Rattle.rv_laws.proofs.StoreLaws.{runs_go_on}
use Rattle.rv_laws.proofs.stores.runs_go_on.Goals as goal

pub returns : goal.returns
returns g c = runs_go_on g.P.Place

use Rattle.rv_standby.proofs.Fronts.{pages_are_followed}
use Rattle.rv_standby.proofs.laws.pages_are_followed.Goals as goal

pub returns : goal.returns
returns c = pages_are_followed

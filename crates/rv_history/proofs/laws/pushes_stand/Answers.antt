use Rattle.rv_history.proofs.Standing.{pushes_stand}
use Rattle.rv_history.proofs.laws.pushes_stand.Goals as goal

pub returns : goal.returns
returns c = pushes_stand

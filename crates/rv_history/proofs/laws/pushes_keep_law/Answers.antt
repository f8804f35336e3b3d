use Rattle.rv_history.proofs.KeptLaws.{pushes_keep}
use Rattle.rv_history.proofs.laws.pushes_keep_law.Goals as goal

pub returns : goal.returns
returns c = pushes_keep

use Rattle.rv_history.proofs.KeptLaws.{turns_keep}
use Rattle.rv_history.proofs.laws.turns_keep_law.Goals as goal

pub returns : goal.returns
returns c = turns_keep

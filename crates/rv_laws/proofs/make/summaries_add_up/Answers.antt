use Rattle.rv_laws.proofs.AddingUp.{summaries_add_up}
use Rattle.rv_laws.proofs.make.summaries_add_up.Goals as goal

pub returns : goal.returns
returns c = summaries_add_up

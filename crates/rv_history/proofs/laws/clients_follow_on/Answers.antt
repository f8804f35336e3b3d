use Rattle.rv_history.proofs.Following.{clients_follow_on}
use Rattle.rv_history.proofs.laws.clients_follow_on.Goals as goal

pub returns : goal.returns
returns c = clients_follow_on

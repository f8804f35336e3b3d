use Rattle.rv_history.proofs.Following.{clients_follow}
use Rattle.rv_history.proofs.laws.clients_follow.Goals as goal

pub returns : goal.returns
returns c = clients_follow

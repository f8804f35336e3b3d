use Rattle.rv_history.specs.GroupLaws.{clients_have_one_group}
use Rattle.rv_history.proofs.laws.clients_have_one_group.Goals as goal

pub returns : goal.returns
returns c = clients_have_one_group

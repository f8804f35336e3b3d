use Rattle.rv_history.specs.GroupLaws.{groups_have_one_user}
use Rattle.rv_history.proofs.laws.groups_have_one_user.Goals as goal

pub returns : goal.returns
returns c = groups_have_one_user

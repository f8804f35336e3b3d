use Rattle.rv_history.specs.GroupLaws.{retired_groups_rest}
use Rattle.rv_history.proofs.laws.retired_groups_rest.Goals as goal

pub returns : goal.returns
returns c = retired_groups_rest

use Rattle.rv_history.specs.GroupLaws.{entries_stand_once}
use Rattle.rv_history.proofs.laws.entries_stand_once.Goals as goal

pub returns : goal.returns
returns c = entries_stand_once

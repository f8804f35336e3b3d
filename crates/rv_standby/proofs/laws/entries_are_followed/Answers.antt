use Rattle.rv_standby.proofs.Fronts.{entries_are_followed}
use Rattle.rv_standby.proofs.laws.entries_are_followed.Goals as goal

pub returns : goal.returns
returns c = entries_are_followed

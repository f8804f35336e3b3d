use Rattle.rv_standby.proofs.Fronts.{fronts_are_shown}
use Rattle.rv_standby.proofs.laws.fronts_are_shown.Goals as goal

pub returns : goal.returns
returns c = fronts_are_shown

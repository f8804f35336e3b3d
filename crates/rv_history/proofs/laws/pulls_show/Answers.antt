use Rattle.rv_history.proofs.Shown.{pulls_show}
use Rattle.rv_history.proofs.laws.pulls_show.Goals as goal

pub returns : goal.returns
returns c = pulls_show

use Rattle.rv_history.proofs.Shown.{patches_show}
use Rattle.rv_history.proofs.laws.patches_show.Goals as goal

pub returns : goal.returns
returns c = patches_show

use Rattle.rv_history.proofs.Shown.{patch_permitted}
use Rattle.rv_history.proofs.laws.patches_are_permitted.Goals as goal

pub returns : goal.returns
returns c = patch_permitted

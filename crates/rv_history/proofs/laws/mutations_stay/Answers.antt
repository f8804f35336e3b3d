use Rattle.rv_history.specs.SuccessionLaws.{mutations_stay}
use Rattle.rv_history.proofs.laws.mutations_stay.Goals as goal

pub returns : goal.returns
returns c = mutations_stay

use Rattle.rv_history.proofs.Standing.{mutation_stands}
use Rattle.rv_history.proofs.laws.mutations_stand.Goals as goal

pub returns : goal.returns
returns c = λ write limit from. mutation_stands write from limit

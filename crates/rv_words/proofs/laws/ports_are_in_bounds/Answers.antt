use Rattle.rv_words.proofs.Commands.{ports_in_bounds}
use Rattle.rv_words.proofs.laws.ports_are_in_bounds.Goals as goal

pub returns : goal.returns
returns c = ports_in_bounds

use Rattle.rv_words.proofs.Commands.{seeds_in_bounds}
use Rattle.rv_words.proofs.laws.seeds_are_in_bounds.Goals as goal

pub returns : goal.returns
returns c = seeds_in_bounds

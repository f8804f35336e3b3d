use Rattle.rv_words.proofs.Bounds.{numbers_in_bounds}
use Rattle.rv_words.proofs.laws.numbers_are_in_bounds.Goals as goal

pub returns : goal.returns
returns c = numbers_in_bounds

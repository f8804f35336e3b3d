use Rattle.rv_words.proofs.Asked.{retire_asked}
use Rattle.rv_words.proofs.laws.retire_is_asked.Goals as goal

pub returns : goal.returns
returns c = retire_asked

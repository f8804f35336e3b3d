use Rattle.rv_words.proofs.Made.{make_asked}
use Rattle.rv_words.proofs.laws.make_is_asked.Goals as goal

pub returns : goal.returns
returns c = make_asked

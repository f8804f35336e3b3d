use Rattle.rv_words.proofs.Asked.{stores_asked}
use Rattle.rv_words.proofs.laws.stores_are_asked.Goals as goal

pub returns : goal.returns
returns c = stores_asked

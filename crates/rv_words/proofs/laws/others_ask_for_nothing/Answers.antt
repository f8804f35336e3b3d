use Rattle.rv_words.proofs.Asked.{others}
use Rattle.rv_words.proofs.laws.others_ask_for_nothing.Goals as goal

pub returns : goal.returns
returns c = others

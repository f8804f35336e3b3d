use Rattle.rv_words.proofs.Asked.{each_store_asked}
use Rattle.rv_words.proofs.laws.each_store_is_asked.Goals as goal

pub returns : goal.returns
returns c = each_store_asked

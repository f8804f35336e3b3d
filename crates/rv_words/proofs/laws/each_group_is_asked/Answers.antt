use Rattle.rv_words.proofs.Asked.{each_group_asked}
use Rattle.rv_words.proofs.laws.each_group_is_asked.Goals as goal

pub returns : goal.returns
returns c = each_group_asked

use Rattle.rv_words.proofs.ServeLaws.{each_option_once}
use Rattle.rv_words.proofs.laws.each_option_stands_once.Goals as goal

pub returns : goal.returns
returns c = each_option_once

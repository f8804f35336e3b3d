use Rattle.rv_words.proofs.ServeLaws.{no_other_flag}
use Rattle.rv_words.proofs.laws.no_other_flag_stands.Goals as goal

pub returns : goal.returns
returns c = no_other_flag

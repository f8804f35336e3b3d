use Rattle.rv_words.proofs.Lines.{line_is_plain}
use Rattle.rv_words.proofs.laws.lines_are_plain.Goals as goal

pub returns : goal.returns
returns c = line_is_plain

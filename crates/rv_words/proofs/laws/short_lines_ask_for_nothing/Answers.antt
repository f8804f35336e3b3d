use Rattle.rv_words.proofs.Asked.{short_lines}
use Rattle.rv_words.proofs.laws.short_lines_ask_for_nothing.Goals as goal

pub returns : goal.returns
returns c = short_lines

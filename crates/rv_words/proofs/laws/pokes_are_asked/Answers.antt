use Rattle.rv_words.proofs.Pokes.{pokes_asked}
use Rattle.rv_words.proofs.laws.pokes_are_asked.Goals as goal

pub returns : goal.returns
returns c = pokes_asked

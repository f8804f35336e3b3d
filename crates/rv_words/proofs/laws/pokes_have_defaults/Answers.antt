use Rattle.rv_words.proofs.Pokes.{pokes_default}
use Rattle.rv_words.proofs.laws.pokes_have_defaults.Goals as goal

pub returns : goal.returns
returns c = pokes_default

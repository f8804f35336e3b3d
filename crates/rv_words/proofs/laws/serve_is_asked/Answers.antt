use Rattle.rv_words.proofs.ServeLaws.{serve_asked}
use Rattle.rv_words.proofs.laws.serve_is_asked.Goals as goal

pub returns : goal.returns
returns c = serve_asked

use Rattle.rv_words.proofs.Imported.{import_asked}
use Rattle.rv_words.proofs.laws.import_is_asked.Goals as goal

pub returns : goal.returns
returns c = import_asked

use Rattle.rv_words.proofs.Imported.{export_asked}
use Rattle.rv_words.proofs.laws.export_is_asked.Goals as goal

pub returns : goal.returns
returns c = export_asked

use Rattle.rv_import.proofs.OnceLaws.{adds_nothing}
use Rattle.rv_import.proofs.laws.imports_add_nothing.Goals as goal

pub returns : goal.returns
returns c = adds_nothing

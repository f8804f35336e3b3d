use Rattle.rv_import.proofs.OnceLaws.{acts_once}
use Rattle.rv_import.proofs.laws.imports_act_once.Goals as goal

pub returns : goal.returns
returns c = acts_once

use Rattle.rv_import.proofs.ResumeLaws.{goes_on}
use Rattle.rv_import.proofs.laws.imports_go_on.Goals as goal

pub returns : goal.returns
returns c = goes_on

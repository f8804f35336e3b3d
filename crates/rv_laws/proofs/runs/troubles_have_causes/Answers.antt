use Rattle.std.proofs.Common.{◌≡◌, true}
use Rattle.rv_cli.specs.TroubleLaws.{run_quiet}
use Rattle.rv_laws.proofs.runs.troubles_have_causes.Goals as goal

pub returns : goal.returns
returns c = λ told. run_quiet (told ≡ true)

use Rattle.rv_wire.specs.Answers.{pull_json}
use Rattle.rv_laws.proofs.ImportLaws.{imports_enter_once}
use Rattle.rv_laws.proofs.import.imports_enter_once.Goals as goal

pub returns : goal.returns
returns g c = imports_enter_once g.P.Place c.runs_go_on.ensures (c.imports_act_once.ensures pull_json) (c.imports_add_nothing.ensures pull_json)

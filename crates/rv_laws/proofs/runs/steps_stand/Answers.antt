use Rattle.rv_wire.specs.Answers.{pull_json}
use Rattle.rv_laws.proofs.LawfulRuns.{steps_stand}
use Rattle.rv_laws.proofs.runs.steps_stand.Goals as goal

pub returns : goal.returns
returns c = steps_stand (c.pushes_stand.ensures pull_json)

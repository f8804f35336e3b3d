use Rattle.rv_wire.specs.Answers.{pull_json}
use Rattle.rv_laws.proofs.LawfulRuns.{steps_show}
use Rattle.rv_laws.proofs.runs.steps_show.Goals as goal

pub returns : goal.returns
returns c = steps_show (c.pulls_show.ensures pull_json)

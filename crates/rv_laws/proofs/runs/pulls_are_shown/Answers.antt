use Rattle.std.proofs.Common.{◌≡◌, true}
use Rattle.rv_wire.specs.Answers.{pull_json}
use Rattle.rv_laws.proofs.LawfulRuns.{pulls_are_shown}
use Rattle.rv_laws.proofs.runs.pulls_are_shown.Goals as goal

pub returns : goal.returns
returns c = λ told. pulls_are_shown (c.turns_keep_law.ensures pull_json) (c.pulls_show.ensures pull_json) (told ≡ true)

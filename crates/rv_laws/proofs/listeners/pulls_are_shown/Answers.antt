use Rattle.rv_wire.specs.Answers.{pull_json}
use Rattle.rv_laws.proofs.ServedRuns.{pulls_are_shown}
use Rattle.rv_laws.proofs.listeners.pulls_are_shown.Goals as goal

pub returns : goal.returns
returns g c = λ accounts. pulls_are_shown g.K.Keeper g.L.Listen g.L.In.Source g.L.Out.Sink accounts (c.pulls_show.ensures pull_json)

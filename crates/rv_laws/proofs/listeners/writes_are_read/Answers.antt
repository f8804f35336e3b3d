use Rattle.rv_wire.specs.Answers.{pull_json}
use Rattle.rv_laws.proofs.ServedLaws.{served_writes_are_read}
use Rattle.rv_laws.proofs.listeners.writes_are_read.Goals as goal

pub returns : goal.returns
returns g c = λ accounts. served_writes_are_read g.K.Keeper g.L.Listen g.L.In.Source g.L.Out.Sink accounts (c.turns_stand.ensures accounts) (c.mutations_stand.ensures pull_json) (c.pulls_show.ensures pull_json)

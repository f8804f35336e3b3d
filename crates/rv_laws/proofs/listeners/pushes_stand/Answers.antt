use Rattle.rv_wire.specs.Answers.{pull_json}
use Rattle.rv_laws.proofs.ServedLaws.{served_pushes_stand}
use Rattle.rv_laws.proofs.listeners.pushes_stand.Goals as goal

pub returns : goal.returns
returns g c = λ accounts. served_pushes_stand g.K.Keeper g.L.Listen g.L.In.Source g.L.Out.Sink accounts (c.turns_stand.ensures accounts) (c.mutations_stand.ensures pull_json)

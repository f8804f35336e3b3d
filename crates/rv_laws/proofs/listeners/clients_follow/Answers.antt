use Rattle.rv_wire.specs.Answers.{pull_json}
use Rattle.rv_laws.proofs.ServedLaws.{served_clients_follow}
use Rattle.rv_laws.proofs.listeners.clients_follow.Goals as goal

pub returns : goal.returns
returns g c = λ accounts. served_clients_follow g.K.Keeper g.L.Listen g.L.In.Source g.L.Out.Sink accounts (c.turns_stand.ensures accounts) (c.pulls_show.ensures pull_json) (c.clients_follow.ensures pull_json)

use Rattle.rv_laws.proofs.ServedRuns.{turns_stand}
use Rattle.rv_laws.proofs.listeners.turns_stand.Goals as goal

pub returns : goal.returns
returns g c = λ accounts. turns_stand g.K.Keeper g.L.Listen g.L.In.Source g.L.Out.Sink accounts

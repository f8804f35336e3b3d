use Rattle.rv_laws.proofs.ServedRuns.{troubles_have_causes}
use Rattle.rv_laws.proofs.listeners.troubles_have_causes.Goals as goal

pub returns : goal.returns
returns g c = λ accounts. troubles_have_causes g.K.Keeper g.L.Listen g.L.In.Source g.L.Out.Sink accounts

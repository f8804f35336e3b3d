use Rattle.rv_laws.proofs.ServedRuns.{keepers_stay}
use Rattle.rv_laws.proofs.listeners.keepers_stay.Goals as goal

pub returns : goal.returns
returns g c = λ accounts. keepers_stay g.K.Keeper g.L.Listen g.L.In.Source g.L.Out.Sink accounts

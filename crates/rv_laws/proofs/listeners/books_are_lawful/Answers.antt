use Rattle.rv_laws.proofs.ServedRuns.{books_are_lawful}
use Rattle.rv_laws.proofs.listeners.books_are_lawful.Goals as goal

pub returns : goal.returns
returns g c = λ accounts. books_are_lawful g.K.Keeper g.L.Listen g.L.In.Source g.L.Out.Sink accounts c.ids_count_up.ensures c.orders_rise.ensures

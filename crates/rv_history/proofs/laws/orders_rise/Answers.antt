use Rattle.rv_history.specs.LawfulBookLaws.{orders_rise}
use Rattle.rv_history.proofs.laws.orders_rise.Goals as goal

pub returns : goal.returns
returns c = orders_rise

use Rattle.rv_history.specs.LawfulBookLaws.{ids_count_up}
use Rattle.rv_history.proofs.laws.ids_count_up.Goals as goal

pub returns : goal.returns
returns c = ids_count_up

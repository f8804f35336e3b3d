use Rattle.rv_import.proofs.Takings.{bad_taken, none_taken}
use Rattle.rv_import.proofs.taking.take_all.Goals as goal

pub returns-in_default : goal.returns-in_default
returns-in_default g c = none_taken g.T.Turns.takes _ _ _

pub returns-in-Ok-None : goal.returns-in-Ok-None
returns-in-Ok-None g c = bad_taken g.T.Turns.takes _ 0 _ _ (rw c.in-Ok-None.field-0-is at c.in-Ok-None.ensures.none)

pub returns : goal.returns
returns g c = none_taken g.T.Turns.takes _ _ _

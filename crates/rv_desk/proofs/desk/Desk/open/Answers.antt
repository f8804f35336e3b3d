use Rattle.std.proofs.Common.{refl}
use Rattle.rv_desk.proofs.desk.Desk.open.Goals as goal

pub open_loaded-requires-clause-left : goal.open_loaded-requires-clause-left
open_loaded-requires-clause-left g c = λ honest left may.
    let tells = (c.in-Ok.ensures.honest honest).1 refl in
    c.in-Ok.ensures.settled tells c.in-Ok.loaded (c.in-Ok.ensures.told tells).0 left may

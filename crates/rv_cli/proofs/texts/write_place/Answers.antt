use Rattle.rv_base.specs.WritesLaws.{writes_then, writes_cut}
use Rattle.rv_cli.proofs.texts.write_place.Goals as goal

pub returns-in-Ok-clause-writes : goal.returns-in-Ok-clause-writes
returns-in-Ok-clause-writes g c =
    let shelf = rw c.from.ensures at c.in_ok-write_number.ensures.writes in
    let key = rw c.as_slice.ensures at c.write_key.ensures.writes in
    writes_then _ _ _ _ _ _ _ shelf (writes_then _ _ _ _ _ _ _ c.in-Ok.ensures.writes key)

pub returns-in-Err-clause-writes : goal.returns-in-Err-clause-writes
returns-in-Err-clause-writes g c =
    let shelf = rw c.from.ensures at c.in_ok-write_number.ensures.writes in
    writes_then _ _ _ _ _ _ _ shelf (writes_cut _ _ _ _ _ c.in-Err.ensures.writes)

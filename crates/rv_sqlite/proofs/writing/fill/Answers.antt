use Rattle.std.proofs.Common.{arith}
use Rattle.sqlite.specs.State.{HasCleanDisk}
use Rattle.sqlite.specs.Held.{state}
use Rattle.rv_sqlite.proofs.Stepping.{filled_by}
use Rattle.rv_sqlite.proofs.writing.fill.Goals as goal

-- The table was made where that was asked, the changes were made, and then the generation was written.
pub returns-clause-steps : goal.returns-clause-steps
returns-clause-steps g c was clean =
    let old = state g.S.Store c.args.transaction.now.conn.now in
    let one = state g.S.Store c.prepare.new.transaction.conn.now in
    let two = state g.S.Store c.make_changes.new.transaction.conn.now in
    let new = state g.S.Store c.put_generation.new.transaction.conn.now in
    let late : HasCleanDisk two = omega (arith, c.put_generation.ensures.survives.clean) in
    let early : HasCleanDisk one = omega (arith, late, c.make_changes.ensures.survives.clean) in
    filled_by old one two new c.args.generation c.args.changes.now c.put_generation.result was (c.prepare.ensures.kept early) (c.make_changes.ensures.kept late)
    (λ under. c.in_ok-prepare.ensures.steps under early) (λ under. c.in_ok-make_changes.ensures.steps under late) (c.put_generation.ensures.steps clean)

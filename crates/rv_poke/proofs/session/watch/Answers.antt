use Rattle.std.proofs.Common.{arith}
use Rattle.rv_poke.proofs.Watching.{begins, fails_at_once, few_enough, stops, goes_on, fails}
use Rattle.rv_poke.proofs.session.watch.Goals as goal

pub returns-in_default-clause-watches : goal.returns-in_default-clause-watches
returns-in_default-clause-watches g c = let (mark, lost) = c.in_default.ensures in fails_at_once g.M.Marks.marks _ _ _ _ _ _ mark lost

pub loop-wait-init : goal.loop-wait-init
loop-wait-init g c = let (mark, went) = c.in-Ok.ensures in begins g.M.Marks.marks _ _ _ _ _ _ _ _ mark went c.poked-pokes.ensures

pub overflow_add-pokes : goal.overflow_add-pokes
overflow_add-pokes g c =
    let (deed, waited, went) = rw c.in-Ok-Some.field-0-is at c.in-Ok-Some.ensures in
    omega (arith, few_enough g.M.Marks.marks _ _ _ _ _ _ c.loop-wait.invariant _ _ _ _ deed went c.poked-pokes-in-Ok-Some.ensures)

pub returns-in-Ok-None-clause-watches : goal.returns-in-Ok-None-clause-watches
returns-in-Ok-None-clause-watches g c =
    let (waited, teller, link) = rw c.in-Ok-None.field-0-is at c.in-Ok-None.ensures in
    rw teller (rw link (stops g.M.Marks.marks _ _ _ _ _ _ c.loop-wait.invariant _ c.if-pokes-eq-MOST_POKES.false c.loop-wait-test.true waited))

pub returns-in-Err-clause-watches : goal.returns-in-Err-clause-watches
returns-in-Err-clause-watches g c =
    let (deed, waited, lost) = c.in-Err.ensures in
    fails g.M.Marks.marks _ _ _ _ _ _ c.loop-wait.invariant _ _ _ c.if-pokes-eq-MOST_POKES.false c.loop-wait-test.true deed waited lost

pub loop-wait-preserved : goal.loop-wait-preserved
loop-wait-preserved g c =
    let (deed, waited, went) = rw c.in-Ok-Some.field-0-is at c.in-Ok-Some.ensures in
    goes_on g.M.Marks.marks _ _ _ _ _ _ c.loop-wait.invariant _ _ _ c.if-pokes-eq-MOST_POKES.false c.loop-wait-test.true deed waited _ _ went c.poked-pokes-in-Ok-Some.ensures

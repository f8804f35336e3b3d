use Rattle.std.proofs.Common.{◌+◌, List, length, sym, ap, ◌∙◌, arith}
use Rattle.std.proofs.lemmas.Result.{IfOk-weaker}
use Rattle.rv_rows.specs.Held.{Stored, put}
use Rattle.rv_sharing.specs.Gathered.{merged, rows_at}
use Rattle.rv_sharing.proofs.ExtentLaws.{extents-found, extents-absent}
use Rattle.rv_sharing.proofs.views.with_extent.Goals as goal

pub returns-in-Some-clause-rows : goal.returns-in-Some-clause-rows
returns-in-Some-clause-rows g c =
    let s : Stored = (c.in-Some.extent.0.now, c.in-Some.extent.1) in
    let one = extents-found c.args.user.now c.args.tables.now.rows s c.in-Some.ensures.order c.in-Some.ensures.found in
    IfOk-weaker c.merged.result _ _
    (λ all both. both ∙ (λ i. put s (rows_at (c.deref.ensures.value i))) ∙ ap (λ (own : List Stored). merged own (rows_at c.args.rows.items)) (sym one))
    c.merged.ensures

pub returns-in-Some-clause-read : goal.returns-in-Some-clause-read
returns-in-Some-clause-read g c =
    let one = extents-found c.args.user.now c.args.tables.now.rows (c.in-Some.extent.0.now, c.in-Some.extent.1) c.in-Some.ensures.order c.in-Some.ensures.found in
    IfOk-weaker c.merged.result _ _ (λ all both. c.tick.ensures ∙ ap (λ (own : List Stored). c.args.steps.now + length own) (sym one)) c.merged.ensures

pub returns-in-Some-clause-most : goal.returns-in-Some-clause-most
returns-in-Some-clause-most g c =
    let one = extents-found c.args.user.now c.args.tables.now.rows (c.in-Some.extent.0.now, c.in-Some.extent.1) c.in-Some.ensures.order c.in-Some.ensures.found in
    omega (arith, c.tick.ensures, ap length one)

pub returns-clause-rows : goal.returns-clause-rows
returns-clause-rows g c = ap (λ (own : List Stored). merged own (rows_at c.args.rows.items)) (sym (extents-absent c.args.user.now c.args.tables.now.rows c.in-None.ensures.found))

pub returns-clause-read : goal.returns-clause-read
returns-clause-read g c = omega (arith, ap length (extents-absent c.args.user.now c.args.tables.now.rows c.in-None.ensures.found))

use Rattle.std.proofs.Common.{ℕ, ◌≤◌, List, length, sym, ap, subst, arith, ◌∙◌}
use Rattle.std.proofs.lemmas.List.{take_all}
use Rattle.rv_base.specs.Sorted.{sorted_by}
use Rattle.rv_rows.proofs.IdLaws.{id, sorted_next, sorted_count}
use Rattle.rv_rows.proofs.lists.in_order.Goals as goal

pub loop-id-preserved : goal.loop-id-preserved
loop-id-preserved c = (
  sorted_next c.args.ids.now c.loop-id.id-index c.id-item.result c.loop-id-test.true c.id-item.is c.loop-id.invariant.0 c.in_ok-copy.ensures c.in_ok-put.ensures.ids,
  c.in_ok-put.ensures.order,
)

pub returns-clause-ids : goal.returns-clause-ids
returns-clause-ids c = c.loop-id.invariant.0 ∙ ap (sorted_by id) (take_all c.loop-id.id-index c.args.ids.now (omega (arith, c.loop-id-test.false)))

pub returns-clause-count : goal.returns-clause-count
returns-clause-count c = subst (λ (is : List (List ℕ)). length is ≤ length c.args.ids.now) (sym (c.loop-id.invariant.0 ∙ ap (sorted_by id) (take_all c.loop-id.id-index c.args.ids.now (omega (arith, c.loop-id-test.false))))) (sorted_count c.args.ids.now)

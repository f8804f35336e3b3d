use Rattle.std.proofs.Common.{◌∙◌}
use Rattle.std.specs.Ordering.{nat_cmp}
use Rattle.std.specs.Cmp.Lexicographic.{slice_cmp}
use Rattle.rv_base.specs.Sorted.{is_in_order}
use Rattle.rv_base.specs.RisingLaws.{stays_in_order, was_in_order}
use Rattle.rv_rows.proofs.IdLaws.{id}
use Rattle.rv_rows.proofs.lists.are_in_order.Goals as goal

pub loop-i-preserved : goal.loop-i-preserved
loop-i-preserved c = stays_in_order id c.args.ids.now c.loop-i.i c.index-ids-i.result c.index-ids-i-in-loop-i.result (is_in_order id c.args.ids.now) c.loop-i.auto.i c.loop-i-test.true c.loop-i.invariant (c.in-Less.ensures ∙ (λ i. slice_cmp nat_cmp (c.index-ids-i.is i) (c.index-ids-i-in-loop-i.is i)))

pub returns : goal.returns
returns c = was_in_order id c.args.ids.now c.loop-i.i (is_in_order id c.args.ids.now) c.loop-i.auto.i c.loop-i-test.false c.loop-i.invariant

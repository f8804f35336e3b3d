use Rattle.std.proofs.Common.{◌∙◌}
use Rattle.std.specs.Ordering.{nat_cmp}
use Rattle.std.specs.Cmp.Lexicographic.{slice_cmp}
use Rattle.rv_base.specs.Sorted.{is_in_order}
use Rattle.rv_base.specs.RisingLaws.{stays_in_order, was_in_order}
use Rattle.rv_keeper.specs.Cells.{cell_key}
use Rattle.rv_standby.proofs.following.are_in_order.Goals as goal

pub loop-i-preserved : goal.loop-i-preserved
loop-i-preserved c =
    stays_in_order cell_key c.args.cells.now c.loop-i.i c.index-cells-i-in-loop-i.result c.index-cells-i.result (is_in_order cell_key c.args.cells.now) c.loop-i.auto.i c.loop-i-test.true c.loop-i.invariant
    (c.in-Less.ensures ∙ (λ i. slice_cmp nat_cmp (cell_key (c.index-cells-i-in-loop-i.is i)) (cell_key (c.index-cells-i.is i))))

pub returns : goal.returns
returns c = was_in_order cell_key c.args.cells.now c.loop-i.i (is_in_order cell_key c.args.cells.now) c.loop-i.auto.i c.loop-i-test.false c.loop-i.invariant

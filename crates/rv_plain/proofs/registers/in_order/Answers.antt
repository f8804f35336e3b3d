use Rattle.std.proofs.Common.{ap, arith, ◌∙◌}
use Rattle.std.proofs.lemmas.List.{take_all}
use Rattle.rv_base.specs.Sorted.{sorted_by}
use Rattle.rv_plain.proofs.Names.{name, sorted_next}
use Rattle.rv_plain.proofs.registers.in_order.Goals as goal

pub loop-name-preserved : goal.loop-name-preserved
loop-name-preserved c = (
  sorted_next c.args.names.now c.loop-name.name-index c.name-item.result c.loop-name-test.true c.name-item.is c.loop-name.invariant.0 c.in_ok-copy.ensures c.in_ok-put.ensures.names,
  c.in_ok-put.ensures.order,
)

pub returns-clause-names : goal.returns-clause-names
returns-clause-names c = c.loop-name.invariant.0 ∙ ap (sorted_by name) (take_all c.loop-name.name-index c.args.names.now (omega (arith, c.loop-name-test.false)))

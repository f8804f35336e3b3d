use Rattle.std.proofs.Common.{rules, ◌∙◌, arith}
use Rattle.rv_wire.proofs.Writing.{one_more_op, last_op}
use Rattle.rv_wire.proofs.answer.write_patch.Goals as goal

pub loop-op-preserved : goal.loop-op-preserved
loop-op-preserved c = record {
  before = c.in_ok-write_op.ensures.0 ∙ c.loop-op.invariant.before;
  tokens = one_more_op c.loop-op.out.tokens _ _ c.args.ops.now c.loop-op.op-index c.op-item.result c.loop-op-test.true c.op-item.is c.in_ok-write_op.ensures.1 c.loop-op.invariant.tokens;
}

pub returns : goal.returns
returns c = (
  search rules,
  last_op c.loop-op.out.tokens _ _ c.args.ops.now c.loop-op.op-index (omega arith) c.in_ok-end_array.ensures.ok c.loop-op.invariant.tokens,
)

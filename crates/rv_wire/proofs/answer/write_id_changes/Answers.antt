use Rattle.std.proofs.Common.{rules, ◌∙◌, arith}
use Rattle.rv_wire.proofs.Writing.{one_more_id, last_id}
use Rattle.rv_wire.proofs.answer.write_id_changes.Goals as goal

pub loop-id-preserved : goal.loop-id-preserved
loop-id-preserved c = record {
  before = c.in_ok-write_num_member.ensures.0 ∙ c.loop-id.invariant.before;
  tokens = one_more_id c.loop-id.out.tokens _ _ c.args.ids.now c.loop-id.id-index c.loop-id-item.result c.loop-id-test.true c.loop-id-item.is (rw c.as_str.ensures.value at c.in_ok-write_num_member.ensures.1) c.loop-id.invariant.tokens;
}

pub returns : goal.returns
returns c = (
  search rules,
  last_id c.loop-id.out.tokens _ _ c.args.ids.now c.loop-id.id-index (omega arith) c.in_ok-end_object.ensures.ok c.loop-id.invariant.tokens,
)

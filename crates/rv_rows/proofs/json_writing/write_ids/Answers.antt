use Rattle.std.proofs.Common.{rules, ℕ, List, ◌∙◌, arith}
use Rattle.serde_json.specs.Data.{string}
use Rattle.rv_rows.specs.ItemLaws.{one_more, last}
use Rattle.rv_rows.proofs.json_writing.write_ids.Goals as goal

pub loop-id-preserved : goal.loop-id-preserved
loop-id-preserved c = record {
  before = c.in_ok-string.ensures.room.0 ∙ c.loop-id.invariant.before;
  tokens = one_more (λ (id : List ℕ). string id) c.loop-id.out.tokens _ _ c.args.ids.now c.loop-id.id-index c.id-item.result c.loop-id-test.true c.id-item.is (rw c.as_str.ensures.value at c.in_ok-string.ensures.ok) c.loop-id.invariant.tokens;
}

pub returns : goal.returns
returns c = (
  search rules,
  last (λ (id : List ℕ). string id) c.loop-id.out.tokens _ _ c.args.ids.now c.loop-id.id-index (omega (arith, c.loop-id-test.false)) c.in_ok-end_array.ensures.ok c.loop-id.invariant.tokens,
)

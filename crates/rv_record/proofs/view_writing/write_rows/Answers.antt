use Rattle.std.proofs.Common.{rules, ◌∙◌, arith}
use Rattle.rv_record.specs.CellTexts.{seen_data}
use Rattle.rv_rows.specs.ItemLaws.{one_more, last}
use Rattle.rv_record.proofs.view_writing.write_rows.Goals as goal

pub loop-key-preserved : goal.loop-key-preserved
loop-key-preserved c = record {
  before = c.in_ok-write_seen.ensures.0 ∙ c.loop-key.invariant.before;
  tokens = one_more seen_data c.loop-key.out.tokens _ _ c.args.rows.now c.loop-key.key-index c.loop-key-item.result c.loop-key-test.true c.loop-key-item.is c.in_ok-write_seen.ensures.1 c.loop-key.invariant.tokens;
}

pub returns : goal.returns
returns c = (
  search rules,
  last seen_data c.loop-key.out.tokens _ _ c.args.rows.now c.loop-key.key-index (omega arith) c.in_ok-end_array.ensures.ok c.loop-key.invariant.tokens,
)

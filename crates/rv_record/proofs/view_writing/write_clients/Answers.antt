use Rattle.std.proofs.Common.{rules, ◌∙◌, arith}
use Rattle.rv_record.specs.CellTexts.{client_data}
use Rattle.rv_rows.specs.ItemLaws.{one_more, last}
use Rattle.rv_record.proofs.view_writing.write_clients.Goals as goal

pub loop-client-preserved : goal.loop-client-preserved
loop-client-preserved c = record {
  before = c.in_ok-write_pair.ensures.0 ∙ c.loop-client.invariant.before;
  tokens = one_more client_data c.loop-client.out.tokens _ _ c.args.clients.now c.loop-client.client-index c.loop-client-item.result c.loop-client-test.true c.loop-client-item.is (rw (c.as_str.ensures.value, c.get.ensures.value) at c.in_ok-write_pair.ensures.1) c.loop-client.invariant.tokens;
}

pub returns : goal.returns
returns c = (
  search rules,
  last client_data c.loop-client.out.tokens _ _ c.args.clients.now c.loop-client.client-index (omega arith) c.in_ok-end_array.ensures.ok c.loop-client.invariant.tokens,
)

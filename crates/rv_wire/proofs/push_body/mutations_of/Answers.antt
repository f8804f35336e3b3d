use Rattle.rv_json.specs.ValueData.{value_data}
use Rattle.rv_wire.specs.Bodies.{mutation_in}
use Rattle.std.proofs.Common.{map}
use Rattle.std.proofs.lemmas.List.{length-map}
use Rattle.rv_wire.proofs.Each.{each_more, each_ends, read_mapped}
use Rattle.rv_wire.proofs.push_body.mutations_of.Goals as goal

pub returns-in-Err : goal.returns-in-Err
returns-in-Err c = each_ends mutation_in (map value_data c.args.values.now) c.loop-value.value-index (value_data c.value-item.result) c.loop-value.mutations.items c.in-Err.fault (simp length-map c.loop-value-test.true) (read_mapped c.args.values.now c.loop-value.value-index c.value-item.result c.loop-value-test.true c.value-item.is) c.loop-value.invariant c.in-Err.ensures

pub loop-value-preserved : goal.loop-value-preserved
loop-value-preserved c = rw c.in-Ok-push.ensures.items (each_more mutation_in (map value_data c.args.values.now) c.loop-value.value-index (value_data c.value-item.result) c.loop-value.mutations.items c.in-Ok.mutation (simp length-map c.loop-value-test.true) (read_mapped c.args.values.now c.loop-value.value-index c.value-item.result c.loop-value-test.true c.value-item.is) c.loop-value.invariant c.in-Ok.ensures)

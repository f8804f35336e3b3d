use Rattle.std.proofs.Common.{drop}
use Rattle.rv_json.specs.ValueData.{items_data}
use Rattle.rv_rows.specs.Members.{each_item}
use Rattle.rv_record.specs.ViewReading.{seen_in}
use Rattle.rv_record.proofs.Items.{Goes}
use Rattle.rv_record.proofs.view_reading.seen_of_values.Given as goal

abbrev pub invariant-loop-value : goal.invariant-loop-value
invariant-loop-value l = Goes seen_in l.rows.items (drop l.value-index l.values) (each_item seen_in (items_data l.values))

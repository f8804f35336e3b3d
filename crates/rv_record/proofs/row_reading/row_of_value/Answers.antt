use Rattle.rv_json.specs.ValueData.{value_data}
use Rattle.rv_record.specs.AgainLaws.{exact_rows}
use Rattle.rv_record.proofs.row_reading.row_of_value.Goals as goal

pub returns : goal.returns
returns c = exact_rows (value_data c.args.value.now) c.read_row.result c.read_row.ensures.found c.read_row.ensures.only

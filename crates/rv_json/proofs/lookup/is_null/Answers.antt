use Rattle.std.proofs.Common.{◌∙◌}
use Rattle.json.specs.Value.{value_view}
use Rattle.rv_json.specs.DocumentLaws.{null-data_of}
use Rattle.rv_json.proofs.lookup.is_null.Goals as goal

pub returns : goal.returns
returns c = c.is_null.ensures ∙ null-data_of (value_view c.args.value.now)

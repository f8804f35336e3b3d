use Rattle.std.proofs.Common.{◌∙◌, ap, sym, option_map}
use Rattle.json.specs.Value.{value_view}
use Rattle.rv_json.specs.Documents.{data_of}
use Rattle.rv_json.specs.DocumentLaws.{at-data_of}
use Rattle.rv_json.proofs.Found.{found_data}
use Rattle.rv_json.proofs.lookup.item.Goals as goal

pub returns : goal.returns
returns c = found_data c.at.result ∙ ap (option_map data_of) c.at.ensures ∙ sym (at-data_of c.args.position (value_view c.args.value.now))

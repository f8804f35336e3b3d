use Rattle.std.proofs.Common.{◌∙◌, ap, sym, option_map}
use Rattle.json.specs.Value.{value_view}
use Rattle.rv_json.specs.Documents.{data_of}
use Rattle.rv_json.specs.DocumentLaws.{get-data_of}
use Rattle.rv_json.proofs.Found.{found_data}
use Rattle.rv_json.proofs.lookup.member.Goals as goal

pub returns : goal.returns
returns c = found_data c.get.result ∙ ap (option_map data_of) c.get.ensures ∙ sym (get-data_of c.args.name.now (value_view c.args.value.now))

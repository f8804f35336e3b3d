-- What is found in a tree, as the values that it stands for.
use Rattle.std.proofs.Common.{◌≡◌, Option, Some, None, Bor, Global, refl, option_map}
use Rattle.json.specs.Value.{value_view}
use Rattle.json.specs.declared.value.Value.{Value}
use Rattle.rv_json.specs.Documents.{data_of}
use Rattle.rv_json.specs.ValueData.{value_data}

-- what is found in a tree, as its value
pub found_data : (r : Option (Bor (Value Global))) → option_map (λ v. value_data v.now) r ≡ option_map data_of (option_map (λ v. value_view v.now) r)
found_data None = refl
found_data (Some v) = refl

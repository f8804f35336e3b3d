use Rattle.std.proofs.Common.{◌≡◌, ℕ, List, ◌++◌, drop, option_map}
use Rattle.rv_json.specs.ValueData.{items_data}
use Rattle.rv_rows.specs.Members.{each_item, text_in}
use Rattle.rv_rows.proofs.json_reading.ids_of_values.Given as goal

-- what is read is what was read, and then what the values that are left are read as
abbrev pub invariant-loop-value : goal.invariant-loop-value
invariant-loop-value l = each_item (text_in 1 128) (items_data l.values) ≡ option_map (λ (rest : List (List ℕ)). l.ids ++ rest) (each_item (text_in 1 128) (items_data (drop l.value-index l.values)))

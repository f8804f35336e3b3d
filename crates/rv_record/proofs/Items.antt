-- Reading an array item by item, as a loop does.
use Rattle.std.proofs.Common.{◌≡◌, List, ◌++◌, Option, Global, option_map}
use Rattle.serde_json.specs.Data.{Data}
use Rattle.rv_json.specs.ValueData.{items_data}
use Rattle.json.specs.declared.value.Value.{Value}
use Rattle.rv_rows.specs.Members.{each_item}

module _ {X : Type 0} (read : Data → Option X) where
  -- what is read is what was read, and then what the values that are left are read as
  abbrev pub Goes : List X → List (Value Global) → Option (List X) → Type 0
  Goes out left whole = whole ≡ option_map (λ (rest : List X). out ++ rest) (each_item read (items_data left))

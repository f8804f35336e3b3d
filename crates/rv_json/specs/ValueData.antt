-- The values that trees over a text stand for.
use Rattle.std.specs.Prelude.{List, ℕ, [], ◌∷◌}
use Rattle.std.specs.Borrow.{Bor}
use Rattle.json.specs.Value as trees
use Rattle.json.specs.declared.value.Value.{Value}
use Rattle.serde_json.specs.Data.{Data, Items, Members, no_members, member}
use Rattle.rv_json.specs.Documents.{data_of, items_of}
use Rattle.std.specs.declared.alloc.Global.{Global}

-- the value that a tree is
abbrev pub value_data : Value Global → Data
value_data tree = data_of (trees.value_view tree)

-- the items that a list of trees are
abbrev pub items_data : List (Value Global) → Items
items_data ts = items_of (trees.items_view ts)

-- the members that names and their trees are
abbrev pub members_data : List (Bor (List ℕ) × Bor (Value Global)) → Members
members_data [] = no_members
members_data (m ∷ ms) = member m.0.now (value_data m.1.now) (members_data ms)

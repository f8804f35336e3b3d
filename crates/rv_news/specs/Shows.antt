-- The operations that tell a difference, over stored rows.
use Rattle.std.specs.Prelude.{List, [], ◌∷◌, ◌++◌, Option, option_map, map, Bool, if◌then◌else◌}
use Rattle.std.specs.List.{filter_map}
use Rattle.rv_rows.specs.declared.key.Key.{Key}
use Rattle.rv_rows.specs.Keys.{key_text}
use Rattle.rv_rows.specs.Held.{Stored, find}
use Rattle.rv_turns.specs.declared.op.Op.{Op}
use Rattle.rv_turns.specs.declared.op.Op.TheVariants.{Clear, Del, Put}
use Rattle.rv_views.specs.declared.diff.Diff.{Diff}

-- the put of a key's row, where it is stored
abbrev pub put_of : List Stored → Key → Option Op
put_of stored key = option_map (λ s. Put s.0) (find (key_text key) stored)

-- everything goes
abbrev pub clears : Bool → List Op
clears clear = if clear then Clear ∷ [] else []

-- everything goes, where it does; then each key that is gone, and then the row of each key that is put
abbrev pub ops_of : List Stored → Diff → List Op
ops_of stored diff = clears diff.clear ++ (map (λ key. Del key) diff.dels ++ filter_map (put_of stored) diff.puts)

-- The owner of a list.
use Rattle.std.specs.Prelude.{ℕ, List, [], ◌∷◌, Option, Some, None, option_and_then}
use Rattle.rv_rows.specs.declared.key.Kind.TheVariants as kinds
use Rattle.rv_rows.specs.declared.row.Row.{Row}
use Rattle.rv_rows.specs.declared.row.Row.TheVariants as variants
use Rattle.rv_rows.specs.Keys.{key_text, row_at}
use Rattle.rv_rows.specs.Held.{Stored}

abbrev pub row_owner : Row → Option (List ℕ)
row_owner (variants.Extent row) = None
row_owner (variants.List row) = Some row.owner
row_owner (variants.Share row) = None
row_owner (variants.Todo row) = None

-- the owner whom the first of some rows tells, where it is a list
abbrev pub first_owner : List Stored → Option (List ℕ)
first_owner [] = None
first_owner (s ∷ rest) = row_owner s.0

-- the owner of the list, where it is there
abbrev pub owner_of : List ℕ → List Row → Option (List ℕ)
owner_of list rows = option_and_then row_owner (row_at (key_text (record { kind = kinds.List; id = list })) rows)

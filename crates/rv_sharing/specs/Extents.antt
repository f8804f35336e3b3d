-- The lists that a user's extent names.
use Rattle.std.specs.Prelude.{ℕ, Bool, true, List, Option, Some, None, option_and_then}
use Rattle.std.specs.List.{list_any}
use Rattle.std.specs.Option.{option_map_or}
use Rattle.std.specs.Str.{bytes_eq}
use Rattle.rv_rows.specs.declared.key.Kind.TheVariants as kinds
use Rattle.rv_rows.specs.declared.row.Row.{Row}
use Rattle.rv_rows.specs.declared.row.Row.TheVariants as variants
use Rattle.rv_rows.specs.Keys.{key_text, row_at}

-- the lists that the row names, where it is an extent
abbrev pub row_lists : Row → Option (List (List ℕ))
row_lists (variants.Extent row) = Some row.lists
row_lists (variants.List row) = None
row_lists (variants.Share row) = None
row_lists (variants.Todo row) = None

-- the user whose extent the row is, where it is one
abbrev pub row_extent : Row → Option (List ℕ)
row_extent (variants.Extent row) = Some row.user
row_extent (variants.List row) = None
row_extent (variants.Share row) = None
row_extent (variants.Todo row) = None

-- the lists that the user's extent names, where there is one
abbrev pub extent_of : List ℕ → List Row → Option (List (List ℕ))
extent_of user rows = option_and_then row_lists (row_at (key_text (record { kind = kinds.Extent; id = user })) rows)

-- the extent names the list, or there is none
abbrev pub is_named : Option (List (List ℕ)) → List ℕ → Bool
is_named extent list = option_map_or (list_any (bytes_eq list)) extent true

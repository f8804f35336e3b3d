-- What becomes of rows from one state to the next: which are written, which keys are lost, and the versions that rows have
-- afterwards.
use Rattle.std.specs.Prelude.{ℕ, Bool, true, false, List, ◌&&◌, ◌==◌, not, map, if◌then◌else◌}
use Rattle.std.specs.List.{filter, list_any}
use Rattle.std.specs.Option.{option_map_or}
use Rattle.std.specs.Str.{bytes_eq}
use Rattle.rv_rows.specs.declared.key.Key.{Key}
use Rattle.rv_rows.specs.declared.row.Row.{Row}
use Rattle.rv_rows.specs.declared.row.Row.TheVariants as variants
use Rattle.rv_rows.specs.declared.call.Call.{Call}
use Rattle.rv_rows.specs.Keys.{row_key, row_text, has_row, in_key_order}
use Rattle.rv_rows.specs.Roles.{same_role}
use Rattle.rv_rows.specs.Extents.{same_lists}
use Rattle.rv_rows.specs.Held.{Stored, rows_in, find}
use Rattle.rv_rows.specs.Effects.{effect}

-- the two are the same
abbrev pub same_flag : Bool → Bool → Bool
same_flag true b = b
same_flag false b = not b

-- the two rows are the same
abbrev pub same_row : Row → Row → Bool
same_row (variants.Extent a) (variants.Extent b) = bytes_eq a.user b.user && same_lists a.lists b.lists
same_row (variants.List a) (variants.List b) = bytes_eq a.id b.id && bytes_eq a.name b.name && bytes_eq a.owner b.owner
same_row (variants.Share a) (variants.Share b) = bytes_eq a.id b.id && bytes_eq a.list b.list && bytes_eq a.user b.user && same_role a.role b.role
same_row (variants.Todo a) (variants.Todo b) = bytes_eq a.id b.id && bytes_eq a.list b.list && bytes_eq a.text b.text && same_flag a.complete b.complete && (a.sort == b.sort)
same_row (variants.Extent a) (variants.List b) = false
same_row (variants.Extent a) (variants.Share b) = false
same_row (variants.Extent a) (variants.Todo b) = false
same_row (variants.List a) (variants.Extent b) = false
same_row (variants.List a) (variants.Share b) = false
same_row (variants.List a) (variants.Todo b) = false
same_row (variants.Share a) (variants.Extent b) = false
same_row (variants.Share a) (variants.List b) = false
same_row (variants.Share a) (variants.Todo b) = false
same_row (variants.Todo a) (variants.Extent b) = false
same_row (variants.Todo a) (variants.List b) = false
same_row (variants.Todo a) (variants.Share b) = false

-- no row was so before
unfoldable pub is_new : List Row → Row → Bool
is_new before row = not (list_any (same_row row) before)

-- no row has the row's key afterwards
unfoldable pub is_gone : List Row → Row → Bool
is_gone after row = not (has_row (row_text row) after)

-- the rows that stand afterwards and did not stand so before, in the order of their keys
abbrev pub written : List Row → List Row → List Row
written before after = filter (is_new before) (in_key_order after)

-- the keys that were there before and are not afterwards, in the order of the rows before
abbrev pub lost : List Row → List Row → List Key
lost before after = map row_key (filter (is_gone after) before)

-- a row that was stored just so keeps its version, and each other row has the given one
abbrev pub version_after : ℕ → List Stored → Row → ℕ
version_after version stored row = option_map_or (λ s. if same_row s.0 row then s.1 else version) (find (row_text row) stored) version

-- the rows in key order with their versions, after a user's call that is given this version
abbrev pub after : List Stored → List ℕ → Call → ℕ → List Stored
after stored user call version = map (λ row. (row, version_after version stored row)) (in_key_order (effect (rows_in stored) user call))

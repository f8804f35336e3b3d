-- The lists that a user sees, and the lists of keys.
use Rattle.std.specs.Prelude.{◌≡◌, ℕ, Bool, false, List, Option, Some, None, ◌&&◌, if◌then◌else◌}
use Rattle.std.specs.List.{list_any}
use Rattle.std.specs.Option.{option_map_or}
use Rattle.std.specs.Str.{bytes_eq}
use Rattle.rv_rows.specs.declared.key.Key.{Key}
use Rattle.rv_rows.specs.declared.row.Row.{Row}
use Rattle.rv_rows.specs.declared.row.Row.TheVariants as variants
use Rattle.rv_rows.specs.Keys.{key_text, row_at}
use Rattle.rv_rows.specs.Sharing.{is_list, is_extent, list_passes, may_see, sees_list}
use Rattle.rv_sharing.specs.Texts.{AreInOrder}

-- the list that the row lets the user see: one that the user owns, or one that is there and shared with the user
abbrev pub opened : List ℕ → List Row → Row → Option (List ℕ)
opened user rows (variants.Extent row) = None
opened user rows (variants.List row) = if bytes_eq row.owner user then Some row.id else None
opened user rows (variants.Share row) = if bytes_eq row.user user && list_any (is_list row.list) rows then Some row.list else None
opened user rows (variants.Todo row) = None

-- these are the lists that the user may see
pub record AreOpened (user : List ℕ) (rows : List Row) (lists : List (List ℕ)) : Type 0 where
  pub order : AreInOrder lists
  pub each : (list : List ℕ) → list_any (bytes_eq list) lists ≡ may_see user list rows

-- these are, of the named lists, those that the user may see
pub record AreAmong (user : List ℕ) (rows : List Row) (named lists : List (List ℕ)) : Type 0 where
  pub order : AreInOrder lists
  pub each : (list : List ℕ) → list_any (bytes_eq list) lists ≡ (may_see user list rows && list_any (bytes_eq list) named)

-- these are the lists that the user sees
pub record AreSeen (user : List ℕ) (rows : List Row) (lists : List (List ℕ)) : Type 0 where
  pub order : AreInOrder lists
  pub each : (list : List ℕ) → list_any (bytes_eq list) lists ≡ sees_list user list rows

-- the key's row is there, and is a list that passes the test, or belongs to one
abbrev pub key_passes : (List ℕ → Bool) → List Row → Key → Bool
key_passes p rows key = option_map_or (list_passes p) (row_at (key_text key) rows) false

-- these are the lists that the keys' rows are or belong to
pub record AreListsOf (rows : List Row) (keys : List Key) (lists : List (List ℕ)) : Type 0 where
  pub order : AreInOrder lists
  pub each : (p : List ℕ → Bool) → list_any p lists ≡ list_any (key_passes p rows) keys

-- the key's row is there, and is the user's extent
abbrev pub key_extends : List ℕ → List Row → Key → Bool
key_extends user rows key = option_map_or (is_extent user) (row_at (key_text key) rows) false

-- these are the users whose extents the keys' rows are
pub record AreUsersOf (rows : List Row) (keys : List Key) (users : List (List ℕ)) : Type 0 where
  pub order : AreInOrder users
  pub each : (user : List ℕ) → list_any (bytes_eq user) users ≡ list_any (key_extends user rows) keys

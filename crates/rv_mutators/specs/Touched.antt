-- The users who see a key that a call writes or removes, before or after it.
use Rattle.std.specs.Prelude.{◌≡◌, ℕ, Bool, List, ◌∷◌, ◌++◌, ◌||◌, map}
use Rattle.std.specs.List.{list_any}
use Rattle.std.specs.Str.{bytes_eq}
use Rattle.rv_base.specs.Sorted.{InOrder}
use Rattle.rv_rows.specs.declared.key.Key.{Key}
use Rattle.rv_rows.specs.declared.row.Row.{Row}
use Rattle.rv_rows.specs.Keys.{row_key}
use Rattle.rv_rows.specs.Held.{Stored, rows_in}
use Rattle.rv_rows.specs.Sharing.{sees_row}
use Rattle.rv_sharing.specs.Affected.{sees_key}
use Rattle.rv_sharing.specs.Texts.{AreInOrder}
use Rattle.rv_mutators.specs.declared.staged.Staged.{Staged}
use Rattle.rv_mutators.specs.Staging.{with_staged}

-- the keys that are removed, and those of the rows that are written
abbrev pub touched : Staged → List Key
touched s = s.keys ++ map row_key s.rows

-- these are the users who see one of those keys before or after, in the order of their bytes, each once
pub record AreTouched (stored : List Stored) (s : Staged) (users : List (List ℕ)) : Type 0 where
  pub order : InOrder (λ user. user) users
  pub each : (user : List ℕ) → list_any (bytes_eq user) users ≡ (list_any (sees_key (rows_in stored) user) (touched s) || list_any (sees_key (rows_in (with_staged 0 s stored)) user) (touched s))

-- the user sees the row, where it stands beside the others
abbrev pub sees_with : List Row → List ℕ → Row → Bool
sees_with rows user row = sees_row user (row ∷ rows) row

-- the users afterwards are those before and those who see the row, where it stands beside the others
pub record AddsReadersOf (rows : List Row) (row : Row) (before after : List (List ℕ)) : Type 0 where
  pub order : AreInOrder after
  pub each : (user : List ℕ) → list_any (bytes_eq user) after ≡ (list_any (bytes_eq user) before || sees_with rows user row)

-- the users afterwards are those before and those who see one of these rows, where it stands beside the others
pub record AddsReaders (rows added : List Row) (before after : List (List ℕ)) : Type 0 where
  pub order : AreInOrder after
  pub each : (user : List ℕ) → list_any (bytes_eq user) after ≡ (list_any (bytes_eq user) before || list_any (sees_with rows user) added)

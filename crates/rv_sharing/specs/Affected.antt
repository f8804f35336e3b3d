-- The users who see a list, and the users who see at least one of some keys.
use Rattle.std.specs.Prelude.{◌≡◌, ℕ, Bool, false, List, ◌||◌}
use Rattle.std.specs.List.{list_any}
use Rattle.std.specs.Option.{option_map_or}
use Rattle.std.specs.Str.{bytes_eq}
use Rattle.rv_base.specs.Sorted.{InOrder}
use Rattle.rv_rows.specs.declared.key.Key.{Key}
use Rattle.rv_rows.specs.declared.row.Row.{Row}
use Rattle.rv_rows.specs.Keys.{key_text, row_at}
use Rattle.rv_rows.specs.Sharing.{sees_list, sees_row}
use Rattle.rv_sharing.specs.Texts.{AreInOrder}

-- the user sees the row of the key, where it is there
abbrev pub sees_key : List Row → List ℕ → Key → Bool
sees_key rows user key = option_map_or (sees_row user rows) (row_at (key_text key) rows) false

-- these are the users who see at least one of the keys, in the order of their bytes, each once
pub record AreAffected (rows : List Row) (keys : List Key) (users : List (List ℕ)) : Type 0 where
  pub order : InOrder (λ user. user) users
  pub each : (user : List ℕ) → list_any (bytes_eq user) users ≡ list_any (sees_key rows user) keys

-- the users afterwards are those before and those who see the list
pub record AddsViewers (rows : List Row) (list : List ℕ) (before after : List (List ℕ)) : Type 0 where
  pub order : AreInOrder after
  pub each : (user : List ℕ) → list_any (bytes_eq user) after ≡ (list_any (bytes_eq user) before || sees_list user list rows)

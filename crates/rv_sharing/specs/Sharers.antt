-- The users whom shares of a list name, and who sync it.
use Rattle.std.specs.Prelude.{◌≡◌, ℕ, List, Option, Some, None, ◌&&◌, ◌||◌, if◌then◌else◌}
use Rattle.std.specs.List.{list_any}
use Rattle.std.specs.Str.{bytes_eq}
use Rattle.rv_rows.specs.declared.row.Row.{Row}
use Rattle.rv_rows.specs.declared.row.Row.TheVariants as variants
use Rattle.rv_rows.specs.Sharing.{shares, is_synced}
use Rattle.rv_sharing.specs.Texts.{AreInOrder}

-- the user whom the row names, where it is a share of the list and the user syncs that
abbrev pub sharer : List ℕ → List Row → Row → Option (List ℕ)
sharer list rows (variants.Extent row) = None
sharer list rows (variants.List row) = None
sharer list rows (variants.Share row) = if bytes_eq row.list list && is_synced row.user list rows then Some row.user else None
sharer list rows (variants.Todo row) = None

-- the users afterwards are those before and those whom a share of the list names and who sync it
pub record AddsSharers (rows : List Row) (list : List ℕ) (before after : List (List ℕ)) : Type 0 where
  pub order : AreInOrder after
  pub each : (user : List ℕ) → list_any (bytes_eq user) after ≡ (list_any (bytes_eq user) before || (list_any (shares user list) rows && is_synced user list rows))

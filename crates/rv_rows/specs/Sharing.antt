-- Who sees what, and who may edit. A user may see a list exactly where the list is there and the user owns it or a share of that
-- list names the user. A user sees each such list that the user's extent names, or each where there is none, with its shares and
-- its todos; and the extent itself. The owner, and a user whom a share of the list with role edit names, may add, change and remove
-- its todos.
use Rattle.std.specs.Prelude.{ℕ, Bool, true, false, List, [], Option, Some, None, ◌&&◌, ◌||◌, not}
use Rattle.std.specs.List.{filter, list_any}
use Rattle.std.specs.Option.{option_map_or}
use Rattle.std.specs.Str.{bytes_eq}
use Rattle.rv_rows.specs.declared.row.Row.{Row}
use Rattle.rv_rows.specs.declared.row.Row.TheVariants as variants
use Rattle.rv_rows.specs.Keys.{in_key_order}
use Rattle.rv_rows.specs.Roles.{is_edit}

-- the row is this list
abbrev pub is_list : List ℕ → Row → Bool
is_list list (variants.Extent row) = false
is_list list (variants.List row) = bytes_eq row.id list
is_list list (variants.Share row) = false
is_list list (variants.Todo row) = false

-- the row is this list, and the user owns it
abbrev pub owns : List ℕ → List ℕ → Row → Bool
owns user list (variants.Extent row) = false
owns user list (variants.List row) = bytes_eq row.id list && bytes_eq row.owner user
owns user list (variants.Share row) = false
owns user list (variants.Todo row) = false

-- the row is a share of this list that names the user
abbrev pub shares : List ℕ → List ℕ → Row → Bool
shares user list (variants.Extent row) = false
shares user list (variants.List row) = false
shares user list (variants.Share row) = bytes_eq row.list list && bytes_eq row.user user
shares user list (variants.Todo row) = false

-- the row is a share of this list that names the user and lets the user edit
abbrev pub lets_edit : List ℕ → List ℕ → Row → Bool
lets_edit user list (variants.Extent row) = false
lets_edit user list (variants.List row) = false
lets_edit user list (variants.Share row) = bytes_eq row.list list && bytes_eq row.user user && is_edit row.role
lets_edit user list (variants.Todo row) = false

-- the row is some user's extent
abbrev pub is_any_extent : Row → Bool
is_any_extent (variants.Extent row) = true
is_any_extent (variants.List row) = false
is_any_extent (variants.Share row) = false
is_any_extent (variants.Todo row) = false

-- the row is the user's extent
abbrev pub is_extent : List ℕ → Row → Bool
is_extent user (variants.Extent row) = bytes_eq row.user user
is_extent user (variants.List row) = false
is_extent user (variants.Share row) = false
is_extent user (variants.Todo row) = false

-- the row is the user's extent, and names this list
abbrev pub names : List ℕ → List ℕ → Row → Bool
names user list (variants.Extent row) = bytes_eq row.user user && list_any (bytes_eq list) row.lists
names user list (variants.List row) = false
names user list (variants.Share row) = false
names user list (variants.Todo row) = false

-- The user may see the list, as one of these rows: it is there, and the user owns it or a share of it names the user.
unfoldable pub may_see : List ℕ → List ℕ → List Row → Bool
may_see user list rows = list_any (owns user list) rows || (list_any (is_list list) rows && list_any (shares user list) rows)

-- The user's extent, as one of these rows, names the list, or there is none.
unfoldable pub is_synced : List ℕ → List ℕ → List Row → Bool
is_synced user list rows = not (list_any (is_extent user) rows) || list_any (names user list) rows

-- the user sees the list, as one of these rows: the user may see it, and it is synced
abbrev pub sees_list : List ℕ → List ℕ → List Row → Bool
sees_list user list rows = may_see user list rows && is_synced user list rows

-- The user may edit the list's todos, as one of these rows: the list is there, and the user owns it or a share of it names the
-- user and lets the user edit.
unfoldable pub may_edit : List ℕ → List ℕ → List Row → Bool
may_edit user list rows = list_any (owns user list) rows || (list_any (is_list list) rows && list_any (lets_edit user list) rows)

-- the list that a row is or belongs to, where it has one; an extent has none
abbrev pub list_of : Row → Option (List ℕ)
list_of (variants.Extent row) = None
list_of (variants.List row) = Some row.id
list_of (variants.Share row) = Some row.list
list_of (variants.Todo row) = Some row.list

-- the row is a list that passes the test, or belongs to one
abbrev pub list_passes : (List ℕ → Bool) → Row → Bool
list_passes test row = option_map_or test (list_of row) false

-- the row is this list, or belongs to it
abbrev pub belongs : List ℕ → Row → Bool
belongs list row = list_passes (λ l. bytes_eq l list) row

-- the user whom a row names: an extent its user, a list its owner, a share the user that it is shared with; a todo names none
abbrev pub user_of : Row → List ℕ
user_of (variants.Extent row) = row.user
user_of (variants.List row) = row.owner
user_of (variants.Share row) = row.user
user_of (variants.Todo row) = []

-- The user sees the row, as one of these rows: the user sees the list that it is or belongs to, or it is the user's extent.
abbrev pub sees_row : List ℕ → List Row → Row → Bool
sees_row user rows row = option_map_or (λ list. sees_list user list rows) (list_of row) (is_extent user row)

-- the rows that the user sees, in the order of their keys
abbrev pub seen : List ℕ → List Row → List Row
seen user rows = filter (sees_row user rows) (in_key_order rows)

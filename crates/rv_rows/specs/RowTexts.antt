-- A row as JSON, and reading it back. Members stand in byte order, and there are no others:
--   an extent  {"lists":[I,..],"user":U}, its ids in the order of their bytes, each once, and at most 64
--   a list   {"id":I,"name":T,"ownerID":U}
--   a share  {"id":I,"listID":I,"userID":U}, which lets edit, or {"id":I,"listID":I,"role":"view","userID":U}
--   a todo   {"complete":B,"id":I,"listID":I,"sort":N,"text":T}
use Rattle.std.specs.Prelude.{ℕ, List, map, codes, ◌<◌, ◌^◌, Option, Some, None, option_map, option_and_then, if◌then◌else◌}
use Rattle.std.specs.Str.{bytes_eq}
use Rattle.std.specs.List.{AllByRecursion}
use Rattle.serde_json.specs.Data.{Data, Members, array, boolean, number, unsigned, string, object, member, no_members}
use Rattle.serde_json.specs.View.{items_of}
use Rattle.serde_json.specs.Find.{as_object, as_bool, as_str}
use Rattle.rv_base.specs.Texts.{IsWithin}
use Rattle.rv_base.specs.Options.{◌>>=◌}
use Rattle.rv_rows.specs.declared.role.Role.{Role}
use Rattle.rv_rows.specs.declared.role.Role.TheVariants as roles
use Rattle.rv_rows.specs.declared.row.Row.{Row}
use Rattle.rv_rows.specs.declared.row.Row.TheVariants as variants
use Rattle.rv_rows.specs.declared.row.ExtentRow.{ExtentRow}
use Rattle.rv_rows.specs.declared.row.ListRow.{ListRow}
use Rattle.rv_rows.specs.declared.row.ShareRow.{ShareRow}
use Rattle.rv_rows.specs.declared.row.TodoRow.{TodoRow}
use Rattle.rv_rows.specs.Extents.{AreLists}
use Rattle.rv_rows.specs.Members.{named, has_ended, text_in, num_in, lists_in}

-- ids, one after another
abbrev pub ids_data : List (List ℕ) → Data
ids_data ids = array (items_of (map (λ id. string id) ids))

-- the members from the role's on: of a share that lets edit it is not told
abbrev pub role_then : Role → Members → Members
role_then roles.View members = member (codes "role") (string (codes "view")) members
role_then roles.Edit members = members

abbrev pub row_data : Row → Data
row_data (variants.Extent row) = object (member (codes "lists") (ids_data row.lists) (member (codes "user") (string row.user) no_members))
row_data (variants.List row) = object (member (codes "id") (string row.id) (member (codes "name") (string row.name) (member (codes "ownerID") (string row.owner) no_members)))
row_data (variants.Share row) = object (member (codes "id") (string row.id) (member (codes "listID") (string row.list) (role_then row.role (member (codes "userID") (string row.user) no_members))))
row_data (variants.Todo row) = object (member (codes "complete") (boolean row.complete) (member (codes "id") (string row.id)
    (member (codes "listID") (string row.list) (member (codes "sort") (number (unsigned row.sort)) (member (codes "text") (string row.text) no_members)))))

-- the row's texts are within their bounds, and an extent's lists in order and at most 64
abbrev pub RowIsWithin : Row → Type 0
RowIsWithin (variants.Extent row) = IsWithin 1 64 row.user × AllByRecursion (IsWithin 1 128) row.lists × AreLists row.lists
RowIsWithin (variants.List row) = IsWithin 1 128 row.id × IsWithin 0 16384 row.name × IsWithin 1 64 row.owner
RowIsWithin (variants.Share row) = IsWithin 1 128 row.id × IsWithin 1 128 row.list × IsWithin 1 64 row.user
RowIsWithin (variants.Todo row) = IsWithin 1 128 row.id × IsWithin 1 128 row.list × IsWithin 0 16384 row.text × (row.sort < 2 ^ 53)

unfoldable pub extent_row_in : Members → Option ExtentRow
extent_row_in members = do
  lists ← named (codes "lists") members
  user ← named (codes "user") lists.1
  end ← has_ended user.1
  l ← lists_in lists.0
  u ← text_in 1 64 user.0
  Some (record { user = u; lists = l })

unfoldable pub list_row_in : Members → Option ListRow
list_row_in members = do
  id ← named (codes "id") members
  name ← named (codes "name") id.1
  owner ← named (codes "ownerID") name.1
  end ← has_ended owner.1
  i ← text_in 1 128 id.0
  n ← text_in 0 16384 name.0
  o ← text_in 1 64 owner.0
  Some (record { id = i; name = n; owner = o })

-- the members after the role's, where it tells this role
abbrev pub past_role : Role → Members → Option Members
past_role roles.View members = option_and_then (λ role. option_and_then (λ text. if bytes_eq text (codes "view") then Some role.1 else None) (as_str role.0)) (named (codes "role") members)
past_role roles.Edit members = Some members

unfoldable pub share_row_in : Role → Members → Option ShareRow
share_row_in role members = do
  id ← named (codes "id") members
  list ← named (codes "listID") id.1
  left ← past_role role list.1
  user ← named (codes "userID") left
  end ← has_ended user.1
  i ← text_in 1 128 id.0
  l ← text_in 1 128 list.0
  u ← text_in 1 64 user.0
  Some (record { id = i; list = l; user = u; role = role })

unfoldable pub todo_row_in : Members → Option TodoRow
todo_row_in members = do
  complete ← named (codes "complete") members
  id ← named (codes "id") complete.1
  list ← named (codes "listID") id.1
  sort ← named (codes "sort") list.1
  text ← named (codes "text") sort.1
  end ← has_ended text.1
  c ← as_bool complete.0
  i ← text_in 1 128 id.0
  l ← text_in 1 128 list.0
  s ← num_in sort.0
  t ← text_in 0 16384 text.0
  Some (record { id = i; list = l; text = t; complete = c; sort = s })

-- the first of the two that is there
abbrev pub either : Option Row → Option Row → Option Row
either (Some row) other = Some row
either None other = other

-- a share that lets edit, one that does not, or a todo
abbrev pub share_or_todo_in : Members → Option Row
share_or_todo_in members = either (option_map (λ row. variants.Share row) (share_row_in roles.Edit members))
    (either (option_map (λ row. variants.Share row) (share_row_in roles.View members)) (option_map (λ row. variants.Todo row) (todo_row_in members)))

-- a list, or what belongs to one
abbrev pub listed_row_in : Members → Option Row
listed_row_in members = either (option_map (λ row. variants.List row) (list_row_in members)) (share_or_todo_in members)

abbrev pub members_row_in : Members → Option Row
members_row_in members = either (option_map (λ row. variants.Extent row) (extent_row_in members)) (listed_row_in members)

abbrev pub row_in : Data → Option Row
row_in value = option_and_then members_row_in (as_object value)

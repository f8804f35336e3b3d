-- The effect of a user's call on the rows. Where its condition holds, the rows to remove are filtered out, a new row is
-- appended, and a changed row is replaced; else the rows stay as they are.
use Rattle.std.specs.Prelude.{ℕ, ◌+◌, ◌-◌, ◌^◌, Bool, false, List, [], ◌∷◌, ◌++◌, ◌&&◌, ◌||◌, not, Option, Some, None, map, unwrap_or, nat_lt, fold, if◌then◌else◌}
use Rattle.std.specs.List.{filter, list_any}
use Rattle.std.specs.Str.{bytes_eq}
use Rattle.rv_rows.specs.declared.key.Kind.{Kind}
use Rattle.rv_rows.specs.declared.key.Kind.TheVariants as kinds
use Rattle.rv_rows.specs.declared.role.Role.{Role}
use Rattle.rv_rows.specs.declared.row.Row.{Row}
use Rattle.rv_rows.specs.declared.row.Row.TheVariants as variants
use Rattle.rv_rows.specs.declared.call.Call.{Call}
use Rattle.rv_rows.specs.declared.call.Call.TheVariants.{CreateList, DeleteList, CreateShare, UpdateShare, DeleteShare, CreateTodo, UpdateTodo, DeleteTodo, SetExtent, Void}
use Rattle.rv_rows.specs.Keys.{key_text, row_text, has_row}
use Rattle.rv_rows.specs.Sharing.{owns, shares, may_edit, list_passes, belongs}

-- the row has the key of this kind and this id
abbrev pub is_at : Kind → List ℕ → Row → Bool
is_at kind id row = bytes_eq (key_text (record { kind = kind; id = id })) (row_text row)

-- the row has another key
abbrev pub is_other : Kind → List ℕ → Row → Bool
is_other kind id row = not (is_at kind id row)

-- the row neither is the list nor belongs to it
abbrev pub is_outside : List ℕ → Row → Bool
is_outside list row = not (belongs list row)

-- the row is this todo, and the user may edit its list
unfoldable pub may_change : List ℕ → List Row → List ℕ → Row → Bool
may_change user rows id row = is_at kinds.Todo id row && list_passes (λ list. may_edit user list rows) row

abbrev pub is_unchanged : List ℕ → List Row → List ℕ → Row → Bool
is_unchanged user rows id row = not (may_change user rows id row)

-- the user may end the share: the user owns its list, or is the one whom it names
abbrev pub may_end : List ℕ → List Row → Row → Bool
may_end user rows (variants.Share row) = list_any (owns user row.list) rows || bytes_eq row.user user
may_end user rows (variants.Extent row) = false
may_end user rows (variants.List row) = false
may_end user rows (variants.Todo row) = false

-- the row is this share, and the user may end it
unfoldable pub ends : List ℕ → List Row → List ℕ → Row → Bool
ends user rows id row = is_at kinds.Share id row && may_end user rows row

-- the row is this share, and the user owns its list
unfoldable pub may_set_role : List ℕ → List Row → List ℕ → Row → Bool
may_set_role user rows id row = is_at kinds.Share id row && list_passes (λ list. list_any (owns user list) rows) row

-- the share with this role
abbrev pub with_role : Role → Row → Row
with_role role (variants.Share row) = variants.Share (record { id = row.id; list = row.list; user = row.user; role = role })
with_role role (variants.Extent row) = variants.Extent row
with_role role (variants.List row) = variants.List row
with_role role (variants.Todo row) = variants.Todo row

-- the row with this share's role set, where the user owns its list
abbrev pub after_role : List ℕ → List Row → List ℕ → Role → Row → Row
after_role user rows id role row = if may_set_role user rows id row then with_role role row else row

-- the sort of a todo of this list, and 0 of any other row
abbrev pub sort_in : List ℕ → Row → ℕ
sort_in list (variants.Todo row) = if bytes_eq row.list list then row.sort else 0
sort_in list (variants.Extent row) = 0
sort_in list (variants.List row) = 0
sort_in list (variants.Share row) = 0

-- the greater of a sort and a row's sort
abbrev pub greater_sort : List ℕ → ℕ → Row → ℕ
greater_sort list most row = if nat_lt most (sort_in list row) then sort_in list row else most

-- the greatest sort in a list, and 0 where it has no todo
abbrev pub greatest_sort : List ℕ → List Row → ℕ
greatest_sort list rows = fold (greater_sort list) 0 rows

-- the sort that comes after: one more, and at most 2^53 - 1
abbrev pub sort_after : ℕ → ℕ
sort_after sort = if nat_lt (sort + 1) (2 ^ 53) then sort + 1 else 2 ^ 53 - 1

-- the sort of the next todo of a list comes after the greatest
abbrev pub next_sort : List ℕ → List Row → ℕ
next_sort list rows = sort_after (greatest_sort list rows)

-- the todo with the fields that are named
abbrev pub with_fields : Option (List ℕ) → Option Bool → Option ℕ → Row → Row
with_fields text complete sort (variants.Todo row) = variants.Todo (record { id = row.id; list = row.list; text = unwrap_or text row.text; complete = unwrap_or complete row.complete; sort = unwrap_or sort row.sort })
with_fields text complete sort (variants.Extent row) = variants.Extent row
with_fields text complete sort (variants.List row) = variants.List row
with_fields text complete sort (variants.Share row) = variants.Share row

-- the user may share the list with the other under this id: the user owns it, no share has the id, and the other is not the
-- owner and has no share of the list
abbrev pub may_share : List ℕ → List Row → List ℕ → List ℕ → List ℕ → Bool
may_share user rows id list other =
    list_any (owns user list) rows && not (has_row (key_text (record { kind = kinds.Share; id = id })) rows) && not (bytes_eq other user) && not (list_any (shares other list) rows)

-- the row with this todo's fields set, where the user may edit its list
abbrev pub after_update : List ℕ → List Row → List ℕ → Option (List ℕ) → Option Bool → Option ℕ → Row → Row
after_update user rows id text complete sort row = if may_change user rows id row then with_fields text complete sort row else row

-- the new row in the place of the one that has its key
abbrev pub replaced : Row → Row → Row
replaced new row = if bytes_eq (row_text new) (row_text row) then new else row

-- the rows with the new one: in the place of the one that has its key, and at the end where none has it
abbrev pub with_row : Row → List Row → List Row
with_row new rows = if has_row (row_text new) rows then map (replaced new) rows else rows ++ new ∷ []

-- the rows with the user's extent of these lists, or with none
abbrev pub with_extent : List ℕ → Option (List (List ℕ)) → List Row → List Row
with_extent user (Some lists) rows = with_row (variants.Extent (record { user = user; lists = lists })) rows
with_extent user None rows = filter (is_other kinds.Extent user) rows

abbrev pub effect : List Row → List ℕ → Call → List Row
-- no list has the id, and the caller is the owner: the list is added
effect rows user (CreateList id name owner) =
    if not (has_row (key_text (record { kind = kinds.List; id = id })) rows) && bytes_eq owner user
    then rows ++ variants.List (record { id = id; name = name; owner = owner }) ∷ []
    else rows
-- the caller owns the list: it goes, with its shares and its todos
effect rows user (DeleteList id) =
    if list_any (owns user id) rows
    then filter (is_outside id) rows
    else rows
-- the caller may share the list with the other: the share is added with its role
effect rows user (CreateShare id list other role) =
    if may_share user rows id list other
    then rows ++ variants.Share (record { id = id; list = list; user = other; role = role }) ∷ []
    else rows
-- the share is there, and the caller owns its list: the role is set
effect rows user (UpdateShare id role) =
    map (after_role user rows id role) rows
-- the share is there, and the caller may end it: it goes
effect rows user (DeleteShare id) =
    if list_any (ends user rows id) rows
    then filter (is_other kinds.Share id) rows
    else rows
-- no todo has the id, and the caller may edit the list: the todo is added at the list's end
effect rows user (CreateTodo id list text complete) =
    if not (has_row (key_text (record { kind = kinds.Todo; id = id })) rows) && may_edit user list rows
    then rows ++ variants.Todo (record { id = id; list = list; text = text; complete = complete; sort = next_sort list rows }) ∷ []
    else rows
-- the todo is there, and the caller may edit its list: the fields that are named are set
effect rows user (UpdateTodo id text complete sort) =
    map (after_update user rows id text complete sort) rows
-- the todo is there, and the caller may edit its list: it goes
effect rows user (DeleteTodo id) = filter (is_unchanged user rows id) rows
-- the caller's extent is set, or it goes
effect rows user (SetExtent lists) = with_extent user lists rows
-- a call that is none has no effect
effect rows user (Void reason) = rows

-- What the body of an entry's cell is read as. Items after those that are named are not looked at here: the reader makes
-- the cell anew and compares.
use Rattle.std.specs.Prelude.{ℕ, ◌<◌, ◌≤◌, ◌^◌, List, Option, Some, None, codes, option_and_then, option_map, if◌then◌else◌}
use Rattle.std.specs.Str.{IsUtf8, bytes_eq}
use Rattle.serde_json.specs.Data.{Data}
use Rattle.serde_json.specs.Find.{at, as_bool}
use Rattle.rv_base.specs.Options.{◌>>=◌}
use Rattle.std.specs.List.{AllByRecursion}
use Rattle.rv_base.specs.Texts.{IsWithin}
use Rattle.rv_rows.specs.Extents.{AreLists}
use Rattle.rv_rows.specs.Members.{text_in, num_in, lists_in, role_or_edit}
use Rattle.rv_json.specs.JsonTexts.{json_in}
use Rattle.rv_rows.specs.declared.call.Call.{Call}
use Rattle.rv_rows.specs.declared.call.Call.TheVariants.{CreateList, DeleteList, CreateShare, UpdateShare, DeleteShare, CreateTodo, UpdateTodo, DeleteTodo, SetExtent, Void}
use Rattle.rv_rows.specs.declared.call.Reason.TheVariants.{UnknownName, BadArgs}
use Rattle.rv_book.specs.declared.entry.Entry.{Entry}
use Rattle.rv_book.specs.declared.entry.Entry.TheVariants.{Act, Look, Retire}
use Rattle.rv_record.specs.CellReading.{IsText}
use Rattle.rv_record.specs.ValueReading.{or_null, place_in, role_item, string_item, text_item, num_item, flag_item}

-- a place is numbered from 1
abbrev pub IsPlace : ℕ → Type 0
IsPlace place = (1 ≤ place) × (place < 2 ^ 32)

-- what is there has the property
abbrev pub IfThere : {X : Type 0} → (X → Type 0) → Option X → Type 0
IfThere P None = Unit {0}
IfThere P (Some x) = P x

-- an extent's lists, whose ids are UTF-8
abbrev pub ListsFit : List (List ℕ) → Type 0
ListsFit lists = AllByRecursion (IsWithin 1 128) lists × AllByRecursion IsUtf8 lists × AreLists lists

abbrev pub CallFits : Call → Type 0
CallFits (CreateList id name owner) = IsText 1 128 id × IsText 0 16384 name × IsText 1 64 owner
CallFits (DeleteList id) = IsText 1 128 id
CallFits (CreateShare id list user role) = IsText 1 128 id × IsText 1 128 list × IsText 1 64 user
CallFits (UpdateShare id role) = IsText 1 128 id
CallFits (DeleteShare id) = IsText 1 128 id
CallFits (CreateTodo id list text complete) = IsText 1 128 id × IsText 1 128 list × IsText 0 16384 text
CallFits (UpdateTodo id text complete sort) = IsText 1 128 id × IfThere (IsText 0 16384) text × IfThere (λ n. n < 2 ^ 53) sort
CallFits (DeleteTodo id) = IsText 1 128 id
CallFits (SetExtent lists) = IfThere ListsFit lists
CallFits (Void reason) = Unit {0}

abbrev pub EntryFits : Entry → Type 0
EntryFits (Act user group client id call) = IsText 1 64 user × IsText 1 128 group × IsText 1 128 client × (id < 2 ^ 53) × CallFits call
EntryFits (Look user group order base) = IsText 1 64 user × IsText 1 128 group × (order < 2 ^ 53) × IfThere (λ n. n < 2 ^ 32) base
EntryFits (Retire group) = IsText 1 128 group

-- an entry at its place
abbrev pub PlacedFits : ℕ × Entry → Type 0
PlacedFits p = IsPlace p.0 × EntryFits p.1

unfoldable pub stored_create_list_in : Data → Option Call
stored_create_list_in value = do
  id ← text_item 1 128 1 value
  name ← text_item 0 16384 2 value
  owner ← text_item 1 64 3 value
  Some (CreateList id name owner)

-- ["createShare",ID,LIST,USER] or ["createShare",ID,LIST,USER,ROLE]
unfoldable pub stored_create_share_in : Data → Option Call
stored_create_share_in value = do
  id ← text_item 1 128 1 value
  list ← text_item 1 128 2 value
  user ← text_item 1 64 3 value
  role ← role_or_edit (at 4 value)
  Some (CreateShare id list user role)

-- ["updateShare",ID,ROLE]
unfoldable pub stored_update_share_in : Data → Option Call
stored_update_share_in value = do
  id ← text_item 1 128 1 value
  role ← role_item 2 value
  Some (UpdateShare id role)

unfoldable pub stored_create_todo_in : Data → Option Call
stored_create_todo_in value = do
  id ← text_item 1 128 1 value
  list ← text_item 1 128 2 value
  text ← text_item 0 16384 3 value
  complete ← flag_item 4 value
  Some (CreateTodo id list text complete)

unfoldable pub stored_update_todo_in : Data → Option Call
stored_update_todo_in value = do
  id ← text_item 1 128 1 value
  text ← option_and_then (or_null (text_in 0 16384)) (at 2 value)
  complete ← option_and_then (or_null as_bool) (at 3 value)
  sort ← option_and_then (or_null num_in) (at 4 value)
  Some (UpdateTodo id text complete sort)

-- ["setExtent",null] or ["setExtent",[ID,..]]
unfoldable pub stored_set_extent_in : Data → Option Call
stored_set_extent_in value = do
  lists ← option_and_then (or_null lists_in) (at 1 value)
  Some (SetExtent lists)

-- a void call, by the text of its reason
abbrev pub void_with : List ℕ → Option Call
void_with reason =
    if bytes_eq reason (codes "UnknownName") then Some (Void UnknownName)
    else if bytes_eq reason (codes "BadArgs") then Some (Void BadArgs)
    else None

-- the call of a name
abbrev pub stored_call_with : List ℕ → Data → Option Call
stored_call_with name value =
    if bytes_eq name (codes "createList") then stored_create_list_in value
    else if bytes_eq name (codes "deleteList") then option_map (λ id. DeleteList id) (text_item 1 128 1 value)
    else if bytes_eq name (codes "createShare") then stored_create_share_in value
    else if bytes_eq name (codes "updateShare") then stored_update_share_in value
    else if bytes_eq name (codes "deleteShare") then option_map (λ id. DeleteShare id) (text_item 1 128 1 value)
    else if bytes_eq name (codes "createTodo") then stored_create_todo_in value
    else if bytes_eq name (codes "updateTodo") then stored_update_todo_in value
    else if bytes_eq name (codes "deleteTodo") then option_map (λ id. DeleteTodo id) (text_item 1 128 1 value)
    else if bytes_eq name (codes "setExtent") then stored_set_extent_in value
    else if bytes_eq name (codes "void") then option_and_then void_with (string_item 1 value)
    else None

unfoldable pub stored_call_in : Data → Option Call
stored_call_in value = option_and_then (λ name. stored_call_with name value) (string_item 0 value)

unfoldable pub act_in : Data → Option Entry
act_in value = do
  user ← text_item 1 64 1 value
  group ← text_item 1 128 2 value
  client ← text_item 1 128 3 value
  id ← num_item 4 value
  spelled ← at 5 value
  call ← stored_call_in spelled
  Some (Act user group client id call)

unfoldable pub look_in : Data → Option Entry
look_in value = do
  user ← text_item 1 64 1 value
  group ← text_item 1 128 2 value
  order ← num_item 3 value
  base ← option_and_then (or_null place_in) (at 4 value)
  Some (Look user group order base)

-- the entry of a name
abbrev pub entry_with : List ℕ → Data → Option Entry
entry_with name value =
    if bytes_eq name (codes "act") then act_in value
    else if bytes_eq name (codes "look") then look_in value
    else if bytes_eq name (codes "retire") then option_map (λ group. Retire group) (text_item 1 128 1 value)
    else None

unfoldable pub entry_in : Data → Option Entry
entry_in value = option_and_then (λ name. entry_with name value) (string_item 0 value)

-- the entry of a body
abbrev pub body_entry : List ℕ → Option Entry
body_entry body = option_and_then entry_in (json_in body)

-- The call that a mutation's name and arguments spell. Members that are not named here are ignored; where one that is
-- named is missing or of another kind or size, null included but for the lists of an extent, the arguments are bad; a role is
-- the text `view` or `edit`.
use Rattle.std.specs.Prelude.{ℕ, List, Option, Some, codes, unwrap_or, option_map, if◌then◌else◌}
use Rattle.std.specs.Str.{bytes_eq}
use Rattle.serde_json.specs.Data.{Data}
use Rattle.serde_json.specs.Find.{get, as_bool}
use Rattle.rv_base.specs.Options.{◌>>=◌}
use Rattle.rv_rows.specs.Members.{text_in, num_in, role_or_edit}
use Rattle.rv_rows.specs.declared.call.Call.{Call}
use Rattle.rv_rows.specs.declared.call.Call.TheVariants.{CreateList, DeleteList, CreateShare, UpdateShare, DeleteShare, CreateTodo, UpdateTodo, DeleteTodo, SetExtent, Void}
use Rattle.rv_rows.specs.declared.call.Reason.TheVariants.{UnknownName, BadArgs}
use Rattle.rv_wire.specs.Members.{text_member, bool_member, role_member, extent_member, optional}

-- {id,name,ownerID}
unfoldable pub create_list_in : Data → Option Call
create_list_in args = do
  id ← text_member 1 128 (codes "id") args
  name ← text_member 0 16384 (codes "name") args
  owner ← text_member 1 64 (codes "ownerID") args
  Some (CreateList id name owner)

-- {id,listID,userID,role?}
unfoldable pub create_share_in : Data → Option Call
create_share_in args = do
  id ← text_member 1 128 (codes "id") args
  list ← text_member 1 128 (codes "listID") args
  user ← text_member 1 64 (codes "userID") args
  role ← role_or_edit (get (codes "role") args)
  Some (CreateShare id list user role)

-- {id,role}
unfoldable pub update_share_in : Data → Option Call
update_share_in args = do
  id ← text_member 1 128 (codes "id") args
  role ← role_member (codes "role") args
  Some (UpdateShare id role)

-- {id,listID,text,complete}
unfoldable pub create_todo_in : Data → Option Call
create_todo_in args = do
  id ← text_member 1 128 (codes "id") args
  list ← text_member 1 128 (codes "listID") args
  text ← text_member 0 16384 (codes "text") args
  complete ← bool_member (codes "complete") args
  Some (CreateTodo id list text complete)

-- {id,text?,complete?,sort?}
unfoldable pub update_todo_in : Data → Option Call
update_todo_in args = do
  id ← text_member 1 128 (codes "id") args
  text ← optional (text_in 0 16384) (get (codes "text") args)
  complete ← optional as_bool (get (codes "complete") args)
  sort ← optional num_in (get (codes "sort") args)
  Some (UpdateTodo id text complete sort)

-- {lists}: null, or an array of at most 64 ids, in any order, with repeats
unfoldable pub set_extent_in : Data → Option Call
set_extent_in args = do
  lists ← extent_member (codes "lists") args
  Some (SetExtent lists)

-- the call of a name, where its arguments are not bad; an id alone ends a list, a share or a todo
abbrev pub call_with : List ℕ → Data → Option Call
call_with name args =
    if bytes_eq name (codes "createList") then create_list_in args
    else if bytes_eq name (codes "deleteList") then option_map (λ id. DeleteList id) (text_in 1 128 args)
    else if bytes_eq name (codes "createShare") then create_share_in args
    else if bytes_eq name (codes "updateShare") then update_share_in args
    else if bytes_eq name (codes "deleteShare") then option_map (λ id. DeleteShare id) (text_in 1 128 args)
    else if bytes_eq name (codes "createTodo") then create_todo_in args
    else if bytes_eq name (codes "updateTodo") then update_todo_in args
    else if bytes_eq name (codes "deleteTodo") then option_map (λ id. DeleteTodo id) (text_in 1 128 args)
    else if bytes_eq name (codes "setExtent") then set_extent_in args
    else Some (Void UnknownName)

-- the call of a name; bad arguments spell none
abbrev pub call_in : List ℕ → Data → Call
call_in name args = unwrap_or (call_with name args) (Void BadArgs)

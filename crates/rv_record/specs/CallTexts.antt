-- A call as JSON, as it is kept: its name and its arguments, in this order.
--   ["createList",ID,NAME,OWNER], ["deleteList",ID], ["createShare",ID,LIST,USER] of a share that lets edit and
--   ["createShare",ID,LIST,USER,"view"] of one that lets see alone, ["updateShare",ID,ROLE] with "view" or "edit",
--   ["deleteShare",ID], ["createTodo",ID,LIST,TEXT,COMPLETE], ["updateTodo",ID,TEXT,COMPLETE,SORT] with null for a field
--   that is not named, ["deleteTodo",ID], ["setExtent",null], ["setExtent",[ID,..]] with the ids in the order of their bytes,
--   each once, ["void","UnknownName"] and ["void","BadArgs"]
use Rattle.std.specs.Prelude.{ℕ, List, [], ◌∷◌, Bool, Option, codes}
use Rattle.std.specs.Option.{option_map_or}
use Rattle.serde_json.specs.Data.{Data, null, boolean, number, unsigned, string, array}
use Rattle.serde_json.specs.View.{items_of}
use Rattle.rv_rows.specs.declared.call.Call.{Call}
use Rattle.rv_rows.specs.declared.call.Call.TheVariants.{CreateList, DeleteList, CreateShare, UpdateShare, DeleteShare, CreateTodo, UpdateTodo, DeleteTodo, SetExtent, Void}
use Rattle.rv_rows.specs.declared.call.Reason.{Reason}
use Rattle.rv_rows.specs.declared.call.Reason.TheVariants.{UnknownName, BadArgs}
use Rattle.rv_rows.specs.declared.role.Role.{Role}
use Rattle.rv_rows.specs.declared.role.Role.TheVariants as roles
use Rattle.rv_rows.specs.Roles.{role_text}
use Rattle.rv_rows.specs.RowTexts.{ids_data}

-- a list of values
abbrev pub array_of : List Data → Data
array_of values = array (items_of values)

-- a text, a flag or a number that may be absent; null where it is
abbrev pub text_or_null : Option (List ℕ) → Data
text_or_null text = option_map_or (λ t. string t) text null

abbrev pub flag_or_null : Option Bool → Data
flag_or_null flag = option_map_or (λ b. boolean b) flag null

abbrev pub number_or_null : Option ℕ → Data
number_or_null n = option_map_or (λ k. number (unsigned k)) n null

-- an extent's lists, and null where there is to be none
abbrev pub lists_or_null : Option (List (List ℕ)) → Data
lists_or_null lists = option_map_or ids_data lists null

-- why a call is none
abbrev pub reason_text : Reason → List ℕ
reason_text UnknownName = codes "UnknownName"
reason_text BadArgs = codes "BadArgs"

-- the role of a new share: of one that lets edit it is not told
abbrev pub role_items : Role → List Data
role_items roles.View = string (codes "view") ∷ []
role_items roles.Edit = []

abbrev pub call_data : Call → Data
call_data (CreateList id name owner) = array_of (string (codes "createList") ∷ string id ∷ string name ∷ string owner ∷ [])
call_data (DeleteList id) = array_of (string (codes "deleteList") ∷ string id ∷ [])
call_data (CreateShare id list user role) = array_of (string (codes "createShare") ∷ string id ∷ string list ∷ string user ∷ role_items role)
call_data (UpdateShare id role) = array_of (string (codes "updateShare") ∷ string id ∷ string (role_text role) ∷ [])
call_data (DeleteShare id) = array_of (string (codes "deleteShare") ∷ string id ∷ [])
call_data (CreateTodo id list text complete) = array_of (string (codes "createTodo") ∷ string id ∷ string list ∷ string text ∷ boolean complete ∷ [])
call_data (UpdateTodo id text complete sort) = array_of (string (codes "updateTodo") ∷ string id ∷ text_or_null text ∷ flag_or_null complete ∷ number_or_null sort ∷ [])
call_data (DeleteTodo id) = array_of (string (codes "deleteTodo") ∷ string id ∷ [])
call_data (SetExtent lists) = array_of (string (codes "setExtent") ∷ lists_or_null lists ∷ [])
call_data (Void reason) = array_of (string (codes "void") ∷ string (reason_text reason) ∷ [])

-- An import: a file of todos, each of whose records is one mutation. The import of a user under a name is the client
-- `csv/USER/NAME` in the client group `csv/USER`, and its todo of record n is `csv/USER/NAME/n`.
use Rattle.std.specs.Prelude.{ℕ, ◌+◌, Bool, true, false, List, [], ◌∷◌, ◌++◌, codes, decimal, Option, Some, None, option_map, ◌&&◌, if◌then◌else◌}
use Rattle.std.specs.Str.{bytes_eq, is_utf8}
use Rattle.rv_base.specs.Options.{◌>>=◌}
use Rattle.rv_rows.specs.declared.call.Call.{Call}
use Rattle.rv_rows.specs.declared.call.Call.TheVariants.{CreateTodo, Void}
use Rattle.rv_rows.specs.declared.call.Reason.TheVariants.{BadArgs}
use Rattle.rv_rows.specs.Members.{within}
use Rattle.rv_turns.specs.declared.mutation.Mutation.{Mutation}
use Rattle.rv_csv.specs.Records.{Record, records_of}

abbrev pub group_id : List ℕ → List ℕ
group_id user = codes "csv/" ++ user

abbrev pub client_id : List ℕ → List ℕ → List ℕ
client_id user name = group_id user ++ (codes "/" ++ name)

-- the todo of record n, in decimal
abbrev pub todo_id : List ℕ → List ℕ → ℕ → List ℕ
todo_id user name n = client_id user name ++ (codes "/" ++ decimal n)

abbrev pub flag_in : List ℕ → Option Bool
flag_in text = if bytes_eq text (codes "true") then Some true else if bytes_eq text (codes "false") then Some false else None

-- a new todo of this id, where the list is of 1 to 128 bytes, the text of at most 16,384, and complete is `true` or `false`
unfoldable pub create_in : List ℕ → List ℕ → List ℕ → List ℕ → Option Call
create_in id list text complete = do
  l ← within 1 128 list
  t ← within 0 16384 text
  c ← flag_in complete
  Some (CreateTodo id l t c)

-- fields that are not of these sizes and forms spell no call
abbrev pub create_or_void : Option Call → Call
create_or_void (Some call) = call
create_or_void None = Void BadArgs

-- the three texts of a record of three fields of UTF-8
abbrev pub texts_in : Record → Option (List ℕ × List ℕ × List ℕ)
texts_in [] = None
texts_in (list ∷ []) = None
texts_in (list ∷ text ∷ []) = None
texts_in (list ∷ text ∷ complete ∷ []) = if is_utf8 list && is_utf8 text && is_utf8 complete then Some (list, text, complete) else None
texts_in (list ∷ text ∷ complete ∷ more ∷ rest) = None

-- the call of such a record; any other has none
abbrev pub call_of_record : List ℕ → Record → Option Call
call_of_record id fields = option_map (λ t. create_or_void (create_in id t.0 t.1 t.2)) (texts_in fields)

-- What an import asks for: mutations in the order of their records, up to the first record that is not of the form, and the number
-- of that one, where there is one.
pub record Asked : Type 0 where
  pub mutations : List Mutation
  pub bad : Option ℕ

-- nothing is asked for where the record of this number is the first that is not of the form
abbrev pub bad_at : ℕ → Asked
bad_at n = record { mutations = []; bad = Some n }

-- what the call of record n asks for, where it has one, and those after it
abbrev pub asked_with : List ℕ → ℕ → Option Call → Asked → Asked
asked_with client n None later = bad_at n
asked_with client n (Some call) later = record { mutations = record { client = client; id = n; call = call } ∷ later.mutations; bad = later.bad }

-- what the records from number n on ask for, one mutation each
abbrev pub asked_from : List ℕ → List ℕ → ℕ → List Record → Asked
asked_from user name n [] = record { mutations = []; bad = None }
asked_from user name n (fields ∷ rest) = asked_with (client_id user name) n (call_of_record (todo_id user name n) fields) (asked_from user name (n + 1) rest)

-- the first record is `list,text,complete`
abbrev pub is_import_header : Record → Bool
is_import_header [] = false
is_import_header (list ∷ []) = false
is_import_header (list ∷ text ∷ []) = false
is_import_header (list ∷ text ∷ complete ∷ []) = bytes_eq list (codes "list") && bytes_eq text (codes "text") && bytes_eq complete (codes "complete")
is_import_header (list ∷ text ∷ complete ∷ more ∷ rest) = false

-- the records after the header have the numbers from 1; where the first is not the header, or is missing, record 0 is bad
abbrev pub asked_in : List ℕ → List ℕ → List Record → Asked
asked_in user name [] = bad_at 0
asked_in user name (first ∷ rest) = if is_import_header first then asked_from user name 1 rest else bad_at 0

-- what an import of these bytes asks for
abbrev pub asked_of : List ℕ → List ℕ → List ℕ → Asked
asked_of user name bytes = asked_in user name (records_of bytes)

-- the most bytes that an import has
abbrev pub import_limit : ℕ
import_limit = 16777216

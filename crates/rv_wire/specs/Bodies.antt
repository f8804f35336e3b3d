-- The body of a push and of a pull, version 1 of each: the checks in their order. Other members are ignored.
use Rattle.std.specs.Prelude.{◌≡◌, ℕ, List, [], ◌∷◌, Bool, Option, Some, None, Result, Ok, Err, String, string_bytes, codes, unwrap_or, option_map, ◌==◌}
use Rattle.std.specs.declared.alloc.Global.{Global}
use Rattle.std.specs.List.{list_any}
use Rattle.std.specs.Str.{bytes_eq}
use Rattle.serde_json.specs.Data.{Data, null, boolean, number, string, array, object, Items, no_items, item}
use Rattle.serde_json.specs.Find.{get, as_object}
use Rattle.rv_base.specs.Chains.{◌>>=◌, need, hold, each}
use Rattle.rv_wire.specs.declared.fault.WireFault.{WireFault}
use Rattle.rv_wire.specs.declared.fault.WireFault.TheVariants.{NotJson, Field, Version, Memory}
use Rattle.rv_wire.specs.declared.fault.FieldName.{FieldName}
use Rattle.rv_wire.specs.declared.fault.FieldName.TheVariants as fields
use Rattle.rv_wire.specs.declared.fault.VersionKind.{VersionKind}
use Rattle.rv_wire.specs.declared.fault.VersionKind.TheVariants as versions
use Rattle.rv_views.specs.declared.cookie.Cookie.{Cookie}
use Rattle.rv_views.specs.declared.cookie.Cookie.TheVariants.{Null, Bare, Named}
use Rattle.rv_turns.specs.declared.mutation.Mutation.{Mutation}
use Rattle.rv_wire.specs.declared.push.Push.{Push}
use Rattle.rv_turns.specs.declared.pull.PullRequest.{PullRequest}
use Rattle.rv_wire.specs.Members.{field_text, text_member, string_member, num_member, array_member}
use Rattle.rv_rows.specs.Members.{num_in}
use Rattle.rv_json.specs.JsonTexts.{json_in}
use Rattle.rv_wire.specs.Calls.{call_in}

-- what is read has this fault; want of memory may come at any body
abbrev pub Fails : {Y : Type 0} → WireFault → Result Y WireFault → Type 0
Fails Memory read = Unit {0}
Fails fault read = read ≡ Err fault

-- what was answered, seen by view, is what is read, unless memory was refused
abbrev pub GivesAll : {X Y : Type 0} → (X → Y) → Result X WireFault → Result Y WireFault → Type 0
GivesAll view (Ok answer) read = read ≡ Ok (view answer)
GivesAll view (Err fault) read = Fails fault read

-- the same of an answer that is seen as it is
abbrev pub GivesBody : {X : Type 0} → Result X WireFault → Result X WireFault → Type 0
GivesBody = GivesAll (λ answer. answer)

-- the schema version is among those that are served
abbrev pub is_schema_served : List (String Global) → List ℕ → Bool
is_schema_served schemas schema = list_any (λ served. bytes_eq (string_bytes served) schema) schemas

-- what both bodies begin with: an object, its version 1, a served schema, a profile, and the client group
unfoldable pub group_in : VersionKind → FieldName → (List ℕ → Bool) → Data → Result (List ℕ) WireFault
group_in kind version served body = do
  members ← need NotJson (as_object body)
  found ← need (Field version) (num_member (field_text version) body)
  right ← hold (Version kind) (found == 1)
  schema ← need (Field fields.SchemaVersion) (string_member (codes "schemaVersion") body)
  known ← hold (Version versions.Schema) (served schema)
  profile ← need (Field fields.ProfileId) (string_member (codes "profileID") body)
  need (Field fields.ClientGroupId) (text_member 1 128 (codes "clientGroupID") body)

-- one mutation: an object with a client, a number and a name; absent arguments are null
unfoldable pub mutation_in : Data → Result Mutation WireFault
mutation_in value = do
  members ← need (Field fields.Mutations) (as_object value)
  client ← need (Field fields.ClientId) (text_member 1 128 (codes "clientID") value)
  id ← need (Field fields.Id) (num_member (codes "id") value)
  name ← need (Field fields.Name) (string_member (codes "name") value)
  Ok (record { client = client; id = id; call = call_in name (unwrap_or (get (codes "args") value) null) })

-- the items as a list
abbrev pub datas : Items → List Data
datas no_items = []
datas (item value values) = value ∷ datas values

-- the mutations of a body, up to the first that is wrong
unfoldable pub mutations_in : Data → Result (List Mutation) WireFault
mutations_in body = do
  values ← need (Field fields.Mutations) (array_member (codes "mutations") body)
  each mutation_in (datas values)

-- a push: what both bodies begin with, and then its mutations
unfoldable pub push_in : (List ℕ → Bool) → Data → Result Push WireFault
push_in served body = do
  group ← group_in versions.Push fields.PushVersion served body
  mutations ← mutations_in body
  Ok (record { group = group; mutations = mutations })

-- the cookie of a place and an order, where both are there
abbrev pub named_cookie : Option (List ℕ) → Option ℕ → Option Cookie
named_cookie (Some place) (Some order) = Some (Named place order)
named_cookie place order = None

-- a cookie: null, a number, or an object with a text `cvrID` and a number `order`
abbrev pub cookie_at : Data → Option Cookie
cookie_at null = Some Null
cookie_at (number n) = option_map (λ order. Bare order) (num_in (number n))
cookie_at (object members) = named_cookie (text_member 0 16384 (codes "cvrID") (object members)) (num_member (codes "order") (object members))
cookie_at (boolean b) = None
cookie_at (string text) = None
cookie_at (array values) = None

-- an absent cookie is null
abbrev pub cookie_in : Data → Result Cookie WireFault
cookie_in body = need (Field fields.Cookie) (cookie_at (unwrap_or (get (codes "cookie") body) null))

-- a pull: what both bodies begin with, and then its cookie
unfoldable pub pull_in : (List ℕ → Bool) → Data → Result PullRequest WireFault
pull_in served body = do
  group ← group_in versions.Pull fields.PullVersion served body
  cookie ← cookie_in body
  Ok (record { group = group; cookie = cookie })

-- the push and the pull of a body's bytes
abbrev pub push_body : (List ℕ → Bool) → List ℕ → Result Push WireFault
push_body served text = need NotJson (json_in text) >>= push_in served

abbrev pub pull_body : (List ℕ → Bool) → List ℕ → Result PullRequest WireFault
pull_body served text = need NotJson (json_in text) >>= pull_in served

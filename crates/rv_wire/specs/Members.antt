-- The members of a body, and what they are read as. A number with a fraction or an exponent is none here.
use Rattle.std.specs.Prelude.{ℕ, Bool, List, Option, Some, None, codes, option_and_then, option_map, is_some, if◌then◌else◌}
use Rattle.serde_json.specs.Data.{Data, Items}
use Rattle.serde_json.specs.Find.{get, as_null, as_str, as_bool, as_array}
use Rattle.rv_rows.specs.Extents.{lists_of}
use Rattle.rv_rows.specs.Members.{text_in, num_in, ids_in, role_in}
use Rattle.rv_rows.specs.declared.role.Role.{Role}
use Rattle.rv_wire.specs.declared.fault.FieldName.{FieldName}
use Rattle.rv_wire.specs.declared.fault.FieldName.TheVariants as fields

-- the name of a member that a fault may name
abbrev pub field_text : FieldName → List ℕ
field_text fields.PushVersion = codes "pushVersion"
field_text fields.PullVersion = codes "pullVersion"
field_text fields.SchemaVersion = codes "schemaVersion"
field_text fields.ProfileId = codes "profileID"
field_text fields.ClientGroupId = codes "clientGroupID"
field_text fields.Mutations = codes "mutations"
field_text fields.ClientId = codes "clientID"
field_text fields.Id = codes "id"
field_text fields.Name = codes "name"
field_text fields.Cookie = codes "cookie"

-- a member that is a text of at least low and at most high bytes
abbrev pub text_member : ℕ → ℕ → List ℕ → Data → Option (List ℕ)
text_member low high name body = option_and_then (text_in low high) (get name body)

-- a member that is a text of any length
abbrev pub string_member : List ℕ → Data → Option (List ℕ)
string_member name body = option_and_then as_str (get name body)

-- a member that is true or false
abbrev pub bool_member : List ℕ → Data → Option Bool
bool_member name body = option_and_then as_bool (get name body)

-- a member that is the text of a role
abbrev pub role_member : List ℕ → Data → Option Role
role_member name body = option_and_then role_in (get name body)

-- the extent that a value asks for: none where it is null, and one of just these lists where it is an array of at most 64 ids
abbrev pub extent_in : Data → Option (Option (List (List ℕ)))
extent_in value = if is_some (as_null value) then Some None else option_map (λ lists. Some lists) (option_and_then lists_of (ids_in value))

-- a member that asks for an extent or for none
abbrev pub extent_member : List ℕ → Data → Option (Option (List (List ℕ)))
extent_member name body = option_and_then extent_in (get name body)

-- what a member is read as that may be absent: nothing is read of an absent one, and one that can't be read is wrong
abbrev pub optional : {X : Type 0} → (Data → Option X) → Option Data → Option (Option X)
optional read None = Some None
optional read (Some value) = option_map (λ x. Some x) (read value)

-- a member that is a whole number up to 2^53 - 1
abbrev pub num_member : List ℕ → Data → Option ℕ
num_member name body = option_and_then num_in (get name body)

-- the items of a member that is an array
abbrev pub array_member : List ℕ → Data → Option Items
array_member name body = option_and_then as_array (get name body)

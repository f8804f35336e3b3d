-- What a value and the members of an object are read as.
use Rattle.std.specs.Prelude.{ℕ, ◌^◌, List, [], ◌∷◌, length, Option, Some, None, option_and_then, nat_le, nat_lt, ◌&&◌, if◌then◌else◌}
use Rattle.std.specs.Str.{bytes_eq}
use Rattle.serde_json.specs.Data.{Data, Items, no_items, item, Members, no_members, member}
use Rattle.serde_json.specs.Find.{as_array, as_str, as_number, as_u64}
use Rattle.rv_base.specs.Options.{◌>>=◌}
use Rattle.rv_rows.specs.declared.role.Role.{Role}
use Rattle.rv_rows.specs.declared.role.Role.TheVariants as roles
use Rattle.rv_rows.specs.Roles.{role_named}
use Rattle.rv_rows.specs.Extents.{exact_lists}

-- a text of at least low and at most high bytes
abbrev pub within : ℕ → ℕ → List ℕ → Option (List ℕ)
within low high text = if nat_le low (length text) && nat_le (length text) high then Some text else None

-- a value that is such a text
abbrev pub text_in : ℕ → ℕ → Data → Option (List ℕ)
text_in low high value = option_and_then (within low high) (as_str value)

-- what each item is read as, where each is read
abbrev pub each_item : {X : Type 0} → (Data → Option X) → Items → Option (List X)
each_item read no_items = Some []
each_item read (item value values) = read value >>= λ x. each_item read values >>= λ xs. Some (x ∷ xs)

-- an array of ids
abbrev pub ids_in : Data → Option (List (List ℕ))
ids_in value = option_and_then (each_item (text_in 1 128)) (as_array value)

-- an array of an extent's lists, as they stand
abbrev pub lists_in : Data → Option (List (List ℕ))
lists_in value = option_and_then exact_lists (ids_in value)

-- a whole number up to 2^53 - 1
abbrev pub num_within : ℕ → Option ℕ
num_within n = if nat_lt n (2 ^ 53) then Some n else None

-- a value that is such a number; one with a fraction or an exponent is none
abbrev pub num_in : Data → Option ℕ
num_in value = option_and_then num_within (option_and_then as_u64 (as_number value))

-- the role whose text a value is
abbrev pub role_in : Data → Option Role
role_in value = option_and_then role_named (as_str value)

-- the role of a new share, by the value that tells it: where no value stands there it is to edit, and a value that is no
-- role's text, null included, tells none
abbrev pub role_or_edit : Option Data → Option Role
role_or_edit None = Some roles.Edit
role_or_edit (Some value) = role_in value

-- the value of the first member, where it has the name, and the members after it
abbrev pub named : List ℕ → Members → Option (Data × Members)
named name no_members = None
named name (member key value members) = if bytes_eq key name then Some (value, members) else None

-- no member is left
abbrev pub has_ended : Members → Option (Unit {0})
has_ended no_members = Some tt
has_ended (member key value _) = None

-- What the bytes of a cell and the items of its body are read as.
use Rattle.std.specs.Prelude.{ℕ, ◌^◌, Bool, List, Option, Some, None, option_map, option_and_then, is_some, nat_lt, if◌then◌else◌}
use Rattle.std.specs.Str.{is_utf8}
use Rattle.serde_json.specs.Data.{Data}
use Rattle.serde_json.specs.Find.{at, as_null, as_bool, as_number, as_u64, as_str}
use Rattle.rv_rows.specs.Members.{within, text_in, num_in, role_in}
use Rattle.rv_rows.specs.declared.role.Role.{Role}

-- bytes that are UTF-8, at least low and at most high of them
unfoldable pub utf8_text_in : ℕ → ℕ → List ℕ → Option (List ℕ)
utf8_text_in low high bytes = if is_utf8 bytes then within low high bytes else None

-- a whole number up to 2^32 - 1, as places and versions are
abbrev pub place_within : ℕ → Option ℕ
place_within n = if nat_lt n (2 ^ 32) then Some n else None

abbrev pub place_in : Data → Option ℕ
place_in value = option_and_then place_within (option_and_then as_u64 (as_number value))

-- null, or what else the value is read as
abbrev pub or_null : {X : Type 0} → (Data → Option X) → Data → Option (Option X)
or_null read value = if is_some (as_null value) then Some None else option_map (λ x. Some x) (read value)

-- The item at a place of an array, from 0: a text of any length, a text of at least low and at most high bytes, a number
-- up to 2^53 - 1, one up to 2^32 - 1, a flag, and the text of a role.
abbrev pub string_item : ℕ → Data → Option (List ℕ)
string_item place value = option_and_then as_str (at place value)

abbrev pub text_item : ℕ → ℕ → ℕ → Data → Option (List ℕ)
text_item low high place value = option_and_then (text_in low high) (at place value)

abbrev pub num_item : ℕ → Data → Option ℕ
num_item place value = option_and_then num_in (at place value)

abbrev pub place_item : ℕ → Data → Option ℕ
place_item place value = option_and_then place_in (at place value)

abbrev pub flag_item : ℕ → Data → Option Bool
flag_item place value = option_and_then as_bool (at place value)

abbrev pub role_item : ℕ → Data → Option Role
role_item place value = option_and_then role_in (at place value)

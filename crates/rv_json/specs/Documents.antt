-- The value that a document is.
use Rattle.std.specs.Prelude.{◌&&◌, Bool, true, false, List, ℕ, Option, is_some, option_and_then, unwrap_or}
use Rattle.std.specs.Float.{binary64}
use Rattle.fast_float.specs.Text.{nearest, scan}
use Rattle.json.specs.Json as json
use Rattle.json.specs.Token.{Token}
use Rattle.serde_json.specs.Data as values
use Rattle.serde_json.specs.Data.{Data, put}
use Rattle.serde_json.specs.Read.{number_of}

-- the number that a text is, and some float where it is out of range: a document with such a number is refused whole
abbrev pub num_of : List ℕ → values.Num
num_of s = unwrap_or (number_of s) (values.float (nearest binary64 false (scan s)))

-- of the members of a name the last one counts
abbrev mutual
  pub data_of : json.Json → Data
  data_of json.null = values.null
  data_of (json.boolean b) = values.boolean b
  data_of (json.number s) = values.number (num_of s)
  data_of (json.string s) = values.string s
  data_of (json.array js) = values.array (items_of js)
  data_of (json.object ms) = values.object (members_of ms values.no_members)

  pub items_of : json.Items → values.Items
  items_of json.no_items = values.no_items
  items_of (json.item j js) = values.item (data_of j) (items_of js)

  pub members_of : json.Members → values.Members → values.Members
  members_of json.no_members found = found
  members_of (json.member k j ms) found = members_of ms (put k (data_of j) found)

-- each of its numbers is in range
abbrev mutual
  pub is_readable : json.Json → Bool
  is_readable json.null = true
  is_readable (json.boolean b) = true
  is_readable (json.number s) = is_some (number_of s)
  is_readable (json.string s) = true
  is_readable (json.array js) = are_readable js
  is_readable (json.object ms) = have_readable ms

  pub are_readable : json.Items → Bool
  are_readable json.no_items = true
  are_readable (json.item j js) = is_readable j && are_readable js

  pub have_readable : json.Members → Bool
  have_readable json.no_members = true
  have_readable (json.member k j ms) = is_readable j && have_readable ms

-- the one document of a text's tokens, where nothing follows it and it nests at most 127 deep
abbrev pub tree_in : List Token → Option json.Json
tree_in ts = option_and_then (λ p. json.if_last p.0 p.1) (json.value 127 ts)

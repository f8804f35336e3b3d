-- Looking into a document first and reading what is there is reading it first and looking then.
use Rattle.std.proofs.Common.{◌≡◌, ℕ, zero, suc, Bool, true, false, cond, List, Option, Some, None, refl, ap, sym, ◌∙◌, bytes_eq, true≢false}
use Rattle.std.proofs.lemmas.Slice.Eq.{bytes_eq-Decides}
use Rattle.std.specs.Prelude.{option_map, option_and_then, ◌&&◌, Float, is_some, unwrap_or, if◌then◌else◌}
use Rattle.json.specs.Json as json
use Rattle.json.specs.Find as tree
use Rattle.serde_json.specs.Data as values
use Rattle.serde_json.specs.Data.{Data, put}
use Rattle.serde_json.specs.Find.{at, get, get_item, get_member, as_null, as_number, as_u64}
use Rattle.serde_json.specs.Read.{number_of, of_json, of_items, of_members}
use Rattle.serde_json.proofs.Views.{get_member-put, get_member-put_other}
use Rattle.rv_json.specs.Documents.{data_of, items_of, members_of, is_readable, are_readable, have_readable}

-- ---- a document is read as its value, where its numbers are in range

number_as : (o : Option values.Num) (x : values.Num) → option_map values.number o ≡ (if is_some o then Some (values.number (unwrap_or o x)) else None)
number_as None x = refl
number_as (Some n) x = refl

one_then : (a b : Bool) (d : Data) (ds : values.Items) → option_and_then (λ e. option_map (values.item e) (if b then Some ds else None)) (if a then Some d else None) ≡ (if a && b then Some (values.item d ds) else None)
one_then true true d ds = refl
one_then true false d ds = refl
one_then false b d ds = refl

member_then : (a b : Bool) (d : Data) (f : Data → Option values.Members) (ms : values.Members) → f d ≡ (if b then Some ms else None) → option_and_then f (if a then Some d else None) ≡ (if a && b then Some ms else None)
member_then true b d f ms e = e
member_then false b d f ms e = refl

array_as : (b : Bool) (ds : values.Items) → option_map values.array (if b then Some ds else None) ≡ (if b then Some (values.array ds) else None)
array_as true ds = refl
array_as false ds = refl

object_as : (b : Bool) (ms : values.Members) → option_map values.object (if b then Some ms else None) ≡ (if b then Some (values.object ms) else None)
object_as true ms = refl
object_as false ms = refl

mutual
  pub read_as : (j : json.Json) → of_json j ≡ (if is_readable j then Some (data_of j) else None)
  read_as json.null = refl
  read_as (json.boolean b) = refl
  read_as (json.number s) = number_as (number_of s) _
  read_as (json.string s) = refl
  read_as (json.array js) = ap (option_map values.array) (items_as js) ∙ array_as (are_readable js) (items_of js)
  read_as (json.object ms) = ap (option_map values.object) (members_as ms values.no_members) ∙ object_as (have_readable ms) (members_of ms values.no_members)

  items_as : (js : json.Items) → of_items js ≡ (if are_readable js then Some (items_of js) else None)
  items_as json.no_items = refl
  items_as (json.item j js) = rw (read_as j, items_as js) (one_then (is_readable j) (are_readable js) (data_of j) (items_of js))

  members_as : (ms : json.Members) (found : values.Members) → of_members ms found ≡ (if have_readable ms then Some (members_of ms found) else None)
  members_as json.no_members found = refl
  members_as (json.member k j ms) found =
      rw (read_as j) (member_then (is_readable j) (have_readable ms) (data_of j) (λ d. of_members ms (put k d found)) (members_of ms (put k (data_of j) found)) (members_as ms (put k (data_of j) found)))

-- ---- items

get_item-of : (n : ℕ) (js : json.Items) → get_item n (items_of js) ≡ option_map data_of (tree.get_item n js)
get_item-of n json.no_items = refl
get_item-of zero (json.item j js) = refl
get_item-of (suc n) (json.item j js) = get_item-of n js

pub at-data_of : (n : ℕ) (j : json.Json) → at n (data_of j) ≡ option_map data_of (tree.at n j)
at-data_of n json.null = refl
at-data_of n (json.boolean b) = refl
at-data_of n (json.number s) = refl
at-data_of n (json.string s) = refl
at-data_of n (json.array js) = get_item-of n js
at-data_of n (json.object ms) = refl

-- ---- members

-- what is found first, or else what was there
abbrev or_else : Option Data → Option Data → Option Data
or_else None old = old
or_else (Some d) old = Some d

later : (a : Option json.Json) (b : Bool) (j : json.Json) (old : Option Data) → or_else (option_map data_of (tree.later_or a (cond b (Some j) None))) old ≡ or_else (option_map data_of a) (cond b (Some (data_of j)) old)
later None true j old = refl
later None false j old = refl
later (Some k) b j old = refl

put_at : (name k : List ℕ) (d : Data) (ms : values.Members) (b : Bool) → bytes_eq k name ≡ b → get_member name (put k d ms) ≡ cond b (Some d) (get_member name ms)
put_at name k d ms true e = rw (sym ((bytes_eq-Decides k name).0 e)) (get_member-put k d ms)
put_at name k d ms false e = get_member-put_other name k d ms (λ same. true≢false (sym ((bytes_eq-Decides k name).1 (sym same)) ∙ e))

get_member-of : (name : List ℕ) (ms : json.Members) (found : values.Members) → get_member name (members_of ms found) ≡ or_else (option_map data_of (tree.get_member name ms)) (get_member name found)
get_member-of name json.no_members found = refl
get_member-of name (json.member k j ms) found =
    get_member-of name ms (put k (data_of j) found) ∙ ap (or_else (option_map data_of (tree.get_member name ms))) (put_at name k (data_of j) found (bytes_eq k name) refl)
    ∙ sym (later (tree.get_member name ms) (bytes_eq k name) j (get_member name found))

or_none : (o : Option Data) → or_else o None ≡ o
or_none None = refl
or_none (Some d) = refl

pub get-data_of : (name : List ℕ) (j : json.Json) → get name (data_of j) ≡ option_map data_of (tree.get name j)
get-data_of name json.null = refl
get-data_of name (json.boolean b) = refl
get-data_of name (json.number s) = refl
get-data_of name (json.string s) = refl
get-data_of name (json.array js) = refl
get-data_of name (json.object ms) = get_member-of name ms values.no_members ∙ or_none (option_map data_of (tree.get_member name ms))

-- ---- null, and whole numbers

pub null-data_of : (j : json.Json) → tree.is_null j ≡ is_some (as_null (data_of j))
null-data_of json.null = refl
null-data_of (json.boolean b) = refl
null-data_of (json.number s) = refl
null-data_of (json.string s) = refl
null-data_of (json.array js) = refl
null-data_of (json.object ms) = refl

whole_as : (o : Option values.Num) (x : Float) → option_and_then as_u64 o ≡ as_u64 (unwrap_or o (values.float x))
whole_as None x = refl
whole_as (Some n) x = refl

pub whole-data_of : (j : json.Json) → option_and_then (λ s. option_and_then as_u64 (number_of s)) (tree.as_number j) ≡ option_and_then as_u64 (as_number (data_of j))
whole-data_of json.null = refl
whole-data_of (json.boolean b) = refl
whole-data_of (json.number s) = whole_as (number_of s) _
whole-data_of (json.string s) = refl
whole-data_of (json.array js) = refl
whole-data_of (json.object ms) = refl

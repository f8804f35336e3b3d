-- The compact text of a value is read as that value, where its numbers fit 64 bits, its texts are UTF-8, the members of
-- its objects stand in order, and it nests no deeper than the reader goes.
use Rattle.std.proofs.Common.{◌≡◌, ℕ, zero, suc, ◌^◌, ◌<◌, ◌≤◌, Bool, true, false, List, [], ◌∷◌, Some, option_and_then, IsUtf8, decimal, refl, sym, ap, ◌∙◌, arith, append-nil}
use Rattle.std.specs.Prelude.{⊤, map}
use Rattle.std.specs.List.{AllByRecursion}
use Rattle.std.proofs.lemmas.Fmt.{IsAscii-decimal}
use Rattle.std.proofs.lemmas.Str.{IsUtf8-append, IsUtf8-nil, IsUtf8-from_ascii}
use Rattle.json.specs.Token.{Token}
use Rattle.json.specs.Json as json
use Rattle.json.specs.Print.{quoted}
use Rattle.json.specs.Tree as tree
use Rattle.json.proofs.Printed.Decimals.{IsNumber-decimal}
use Rattle.json.proofs.Printed.Tokens.{tokens-print}
use Rattle.json.proofs.Printed.Trees.{value-json_tokens, ArePrintable-json_tokens}
use Rattle.json.proofs.Printed.Utf8.{IsUtf8-are_ascii, IsUtf8-quoted, IsUtf8-boolean}
use Rattle.serde_json.specs.Data.{unsigned, negative, float, Data, null, boolean, number, string, array, object, Items, no_items, item, Members, no_members, member, put}
use Rattle.serde_json.specs.Read.{of_json, of_items, of_members, max_depth, read}
use Rattle.serde_json.specs.Written.{outline, items_outline, members_outline, comma_if, compact_text, items_text, members_text}
use Rattle.serde_json.proofs.Numbers.{number_of-decimal}
use Rattle.serde_json.proofs.Texts.{print-outline}
use Rattle.serde_json.specs.View.{items_of}
use Rattle.rv_json.specs.JsonTexts.{json_in}
use Rattle.rv_json.specs.JsonTextLaws.{json_some}
use Rattle.rv_rows.specs.RowTexts.{ids_data}

-- the members put in one after another
abbrev pub put_all : Members → Members → Members
put_all no_members found = found
put_all (member k d ms) found = put_all ms (put k d found)

-- the value is read back from its text, where so many arrays and objects may nest in one another
abbrev mutual
  pub IsPlain : Data → ℕ → Type 0
  IsPlain null n = ⊤
  IsPlain (boolean b) n = ⊤
  IsPlain (number (unsigned m)) n = m < 2 ^ 64
  IsPlain (number (negative z)) n = ⊥
  IsPlain (number (float x)) n = ⊥
  IsPlain (string s) n = IsUtf8 s
  IsPlain (array ds) zero = ⊥
  IsPlain (array ds) (suc n) = ArePlain ds n
  IsPlain (object ms) zero = ⊥
  IsPlain (object ms) (suc n) = ArePlainMembers ms n × (put_all ms no_members ≡ ms)

  pub ArePlain : Items → ℕ → Type 0
  ArePlain no_items n = ⊤
  ArePlain (item d ds) n = IsPlain d n × ArePlain ds n

  pub ArePlainMembers : Members → ℕ → Type 0
  ArePlainMembers no_members n = ⊤
  ArePlainMembers (member k d ms) n = IsUtf8 k × IsPlain d n × ArePlainMembers ms n

mutual
  depth-plain : (d : Data) (n : ℕ) → IsPlain d n → tree.depth (outline d) ≤ n
  depth-plain null n h = omega arith
  depth-plain (boolean b) n h = omega arith
  depth-plain (number (unsigned m)) n h = omega arith
  depth-plain (number (negative z)) n h = absurd h
  depth-plain (number (float x)) n h = absurd h
  depth-plain (string s) n h = omega arith
  depth-plain (array ds) zero h = absurd h
  depth-plain (array ds) (suc n) h = omega (arith, items_depth-plain ds n h)
  depth-plain (object ms) zero h = absurd h
  depth-plain (object ms) (suc n) h = omega (arith, members_depth-plain ms n h.0)

  items_depth-plain : (ds : Items) (n : ℕ) → ArePlain ds n → tree.items_depth (items_outline ds) ≤ n
  items_depth-plain no_items n h = omega arith
  items_depth-plain (item d ds) n h = omega (arith, depth-plain d n h.0, items_depth-plain ds n h.1)

  members_depth-plain : (ms : Members) (n : ℕ) → ArePlainMembers ms n → tree.members_depth (members_outline ms) ≤ n
  members_depth-plain no_members n h = omega arith
  members_depth-plain (member k d ms) n h = omega (arith, depth-plain d n h.1, members_depth-plain ms n h.2)

mutual
  numbers-plain : (d : Data) (n : ℕ) → IsPlain d n → tree.HasNumbers (outline d)
  numbers-plain null n h = tt
  numbers-plain (boolean b) n h = tt
  numbers-plain (number (unsigned m)) n h = IsNumber-decimal m h
  numbers-plain (number (negative z)) n h = absurd h
  numbers-plain (number (float x)) n h = absurd h
  numbers-plain (string s) n h = tt
  numbers-plain (array ds) zero h = absurd h
  numbers-plain (array ds) (suc n) h = items_numbers-plain ds n h
  numbers-plain (object ms) zero h = absurd h
  numbers-plain (object ms) (suc n) h = members_numbers-plain ms n h.0

  items_numbers-plain : (ds : Items) (n : ℕ) → ArePlain ds n → tree.ItemsHaveNumbers (items_outline ds)
  items_numbers-plain no_items n h = tt
  items_numbers-plain (item d ds) n h = (numbers-plain d n h.0, items_numbers-plain ds n h.1)

  members_numbers-plain : (ms : Members) (n : ℕ) → ArePlainMembers ms n → tree.MembersHaveNumbers (members_outline ms)
  members_numbers-plain no_members n h = tt
  members_numbers-plain (member k d ms) n h = (numbers-plain d n h.1, members_numbers-plain ms n h.2)

mutual
  of_json-outline : (d : Data) (n : ℕ) → IsPlain d n → of_json (outline d) ≡ Some d
  of_json-outline null n h = refl
  of_json-outline (boolean b) n h = refl
  of_json-outline (number (unsigned m)) n h = rw (number_of-decimal m h) refl
  of_json-outline (number (negative z)) n h = absurd h
  of_json-outline (number (float x)) n h = absurd h
  of_json-outline (string s) n h = refl
  of_json-outline (array ds) zero h = absurd h
  of_json-outline (array ds) (suc n) h = rw (of_items-outline ds n h) refl
  of_json-outline (object ms) zero h = absurd h
  of_json-outline (object ms) (suc n) h = rw (of_members-outline ms n no_members h.0, h.1) refl

  of_items-outline : (ds : Items) (n : ℕ) → ArePlain ds n → of_items (items_outline ds) ≡ Some ds
  of_items-outline no_items n h = refl
  of_items-outline (item d ds) n h = rw (of_json-outline d n h.0, of_items-outline ds n h.1) refl

  of_members-outline : (ms : Members) (n : ℕ) (found : Members) → ArePlainMembers ms n → of_members (members_outline ms) found ≡ Some (put_all ms found)
  of_members-outline no_members n found h = refl
  of_members-outline (member k d ms) n found h = rw (of_json-outline d n h.1) (of_members-outline ms n (put k d found) h.2)

IsUtf8-comma : (later : Bool) → IsUtf8 (comma_if later)
IsUtf8-comma true = IsUtf8-are_ascii (44 ∷ []) refl
IsUtf8-comma false = IsUtf8-nil

mutual
  IsUtf8-compact : (d : Data) (n : ℕ) → IsPlain d n → IsUtf8 (compact_text d)
  IsUtf8-compact null n h = IsUtf8-are_ascii _ refl
  IsUtf8-compact (boolean b) n h = IsUtf8-boolean b
  IsUtf8-compact (number (unsigned m)) n h = IsUtf8-from_ascii (decimal m) (IsAscii-decimal m h)
  IsUtf8-compact (number (negative z)) n h = absurd h
  IsUtf8-compact (number (float x)) n h = absurd h
  IsUtf8-compact (string s) n h = IsUtf8-quoted s h
  IsUtf8-compact (array ds) zero h = absurd h
  IsUtf8-compact (array ds) (suc n) h = IsUtf8-append (91 ∷ []) (items_text false ds) (IsUtf8-are_ascii (91 ∷ []) refl) (IsUtf8-items false ds n h)
  IsUtf8-compact (object ms) zero h = absurd h
  IsUtf8-compact (object ms) (suc n) h = IsUtf8-append (123 ∷ []) (members_text false ms) (IsUtf8-are_ascii (123 ∷ []) refl) (IsUtf8-members false ms n h.0)

  IsUtf8-items : (later : Bool) (ds : Items) (n : ℕ) → ArePlain ds n → IsUtf8 (items_text later ds)
  IsUtf8-items later no_items n h = IsUtf8-are_ascii (93 ∷ []) refl
  IsUtf8-items later (item d ds) n h = IsUtf8-append (comma_if later) _ (IsUtf8-comma later) (IsUtf8-append (compact_text d) _ (IsUtf8-compact d n h.0) (IsUtf8-items true ds n h.1))

  IsUtf8-members : (later : Bool) (ms : Members) (n : ℕ) → ArePlainMembers ms n → IsUtf8 (members_text later ms)
  IsUtf8-members later no_members n h = IsUtf8-are_ascii (125 ∷ []) refl
  IsUtf8-members later (member k d ms) n h =
      let rest = IsUtf8-append (compact_text d) (members_text true ms) (IsUtf8-compact d n h.1) (IsUtf8-members true ms n h.2) in
      IsUtf8-append (comma_if later) _ (IsUtf8-comma later) (IsUtf8-append (quoted k) _ (IsUtf8-quoted k h.0) (IsUtf8-append (58 ∷ []) _ (IsUtf8-are_ascii (58 ∷ []) refl) rest))

read-compact : (d : Data) → IsPlain d max_depth → read (compact_text d) ≡ Some d
read-compact d h =
    let j = outline d in
    let lexed = tokens-print (tree.json_tokens j) (ArePrintable-json_tokens j (numbers-plain d max_depth h)) ∙ sym (append-nil (tree.json_tokens j)) in
    ap read (sym (print-outline d))
    ∙ ap (λ (ts : List Token). option_and_then of_json (option_and_then (λ p. json.if_last p.0 p.1) (json.value max_depth ts))) lexed
    ∙ ap (λ o. option_and_then of_json (option_and_then (λ p. json.if_last p.0 p.1) o)) (value-json_tokens j max_depth [] (depth-plain d max_depth h))
    ∙ of_json-outline d max_depth h

pub json_again : (d : Data) → IsPlain d max_depth → json_in (compact_text d) ≡ Some d
json_again d h = json_some (compact_text d) d (IsUtf8-compact d max_depth h) (read-compact d h)

-- ids that are UTF-8
pub ids_plain : (ids : List (List ℕ)) (n : ℕ) → AllByRecursion IsUtf8 ids → IsPlain (ids_data ids) (suc n)
ids_plain ids n all = each ids all
  where
    each : (ids : List (List ℕ)) → AllByRecursion IsUtf8 ids → ArePlain (items_of (map (λ id. string id) ids)) n
    each [] all = tt
    each (id ∷ ids) all = (all.0, each ids all.1)

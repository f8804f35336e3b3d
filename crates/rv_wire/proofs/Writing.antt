-- Lists are written item by item: what is written, and then what is left, is always the same. And the text of what was
-- written.
use Rattle.std.proofs.Common.{◌≡◌, ℕ, ◌+◌, ◌<◌, ◌≤◌, List, [], ◌∷◌, ◌++◌, length, get_or, drop, map, sym, ap, ap₂, ◌∙◌, append_assoc}
use Rattle.std.proofs.lemmas.List.{drop_all, drop_more}
use Rattle.json.specs.Token.{Token, key, number}
use Rattle.json.specs.Print.{print}
use Rattle.json.specs.Tree.{json_tokens, items_tokens, members_tokens}
use Rattle.serde_json.specs.Data.{Data}
use Rattle.serde_json.specs.View.{items_of}
use Rattle.serde_json.specs.Written.{outline, items_outline, members_outline, compact_text}
use Rattle.serde_json.proofs.Texts.{print-outline}
use Rattle.std.specs.Prelude.{decimal}
use Rattle.rv_turns.specs.declared.op.Op.{Op}
use Rattle.rv_wire.specs.Answers.{id_members, op_data}

-- the id changes and the end of their object
abbrev pub ids_tokens : List (List ℕ × ℕ) → List Token
ids_tokens ids = members_tokens (members_outline (id_members ids))

-- the operations and the end of their array
abbrev pub ops_tokens : List Op → List Token
ops_tokens ops = items_tokens (items_outline (items_of (map op_data ops)))

pub one_more_id : (before after whole : List Token) (ids : List (List ℕ × ℕ)) (i : ℕ) (x : List ℕ × ℕ) → i < length ids → x ≡ get_or ids i x
    → after ≡ before ++ key x.0 ∷ number (decimal x.1) ∷ [] → before ++ ids_tokens (drop i ids) ≡ whole → after ++ ids_tokens (drop (i + 1) ids) ≡ whole
one_more_id before after whole ids i x lt is written so_far =
    let next : drop i ids ≡ x ∷ drop (i + 1) ids = drop_more ids i x lt ∙ ap (λ (y : List ℕ × ℕ). y ∷ drop (i + 1) ids) (sym is) in
    rw written (append_assoc before _ _ ∙ ap (λ (t : List (List ℕ × ℕ)). before ++ ids_tokens t) (sym next) ∙ so_far)

pub last_id : (before after whole : List Token) (ids : List (List ℕ × ℕ)) (i : ℕ) → length ids ≤ i
    → after ≡ before ++ Token.end_object ∷ [] → before ++ ids_tokens (drop i ids) ≡ whole → after ≡ whole
last_id before after whole ids i end written so_far =
    written ∙ ap (λ (t : List (List ℕ × ℕ)). before ++ ids_tokens t) (sym (drop_all i ids end)) ∙ so_far

pub one_more_op : (before after whole : List Token) (ops : List Op) (i : ℕ) (x : Op) → i < length ops → x ≡ get_or ops i x
    → after ≡ before ++ json_tokens (outline (op_data x)) → before ++ ops_tokens (drop i ops) ≡ whole → after ++ ops_tokens (drop (i + 1) ops) ≡ whole
one_more_op before after whole ops i x lt is written so_far =
    let next : drop i ops ≡ x ∷ drop (i + 1) ops = drop_more ops i x lt ∙ ap (λ (y : Op). y ∷ drop (i + 1) ops) (sym is) in
    rw written (append_assoc before _ _ ∙ ap (λ (t : List Op). before ++ ops_tokens t) (sym next) ∙ so_far)

pub last_op : (before after whole : List Token) (ops : List Op) (i : ℕ) → length ops ≤ i
    → after ≡ before ++ Token.end_array ∷ [] → before ++ ops_tokens (drop i ops) ≡ whole → after ≡ whole
last_op before after whole ops i end written so_far =
    written ∙ ap (λ (t : List Op). before ++ ops_tokens t) (sym (drop_all i ops end)) ∙ so_far

-- where nothing stood before, the text is that of the value
pub text_of : (text before : List ℕ) (tokens : List Token) (d : Data) → text ≡ before ++ print tokens → before ≡ [] → tokens ≡ json_tokens (outline d) → text ≡ compact_text d
text_of text before tokens d written none whole = written ∙ ap₂ (λ (s : List ℕ) (ts : List Token). s ++ print ts) none whole ∙ print-outline d

-- Lists are written item by item: what is written, and then what is left, is always the same.
use Rattle.std.proofs.Common.{◌≡◌, ℕ, ◌+◌, ◌<◌, ◌≤◌, List, [], ◌∷◌, ◌++◌, length, get_or, drop, map, sym, ap, ◌∙◌, append_assoc}
use Rattle.std.proofs.lemmas.List.{drop_all, drop_more}
use Rattle.json.specs.Token.{Token}
use Rattle.json.specs.Tree.{json_tokens, items_tokens}
use Rattle.serde_json.specs.Data.{Data}
use Rattle.serde_json.specs.View.{items_of}
use Rattle.serde_json.specs.Written.{outline, items_outline}

-- the items of a list and the end of their array
abbrev pub list_tokens : {A : Type 0} → (A → Data) → List A → List Token
list_tokens f xs = items_tokens (items_outline (items_of (map f xs)))

pub one_more : {A : Type 0} (f : A → Data) (before after whole : List Token) (xs : List A) (i : ℕ) (x : A) → i < length xs → x ≡ get_or xs i x
    → after ≡ before ++ json_tokens (outline (f x)) → before ++ list_tokens f (drop i xs) ≡ whole → after ++ list_tokens f (drop (i + 1) xs) ≡ whole
one_more {A = A} f before after whole xs i x lt is written so_far =
    let next : drop i xs ≡ x ∷ drop (i + 1) xs = drop_more xs i x lt ∙ ap (λ (y : A). y ∷ drop (i + 1) xs) (sym is) in
    rw written (append_assoc before _ _ ∙ ap (λ (t : List A). before ++ list_tokens f t) (sym next) ∙ so_far)

pub last : {A : Type 0} (f : A → Data) (before after whole : List Token) (xs : List A) (i : ℕ) → length xs ≤ i
    → after ≡ before ++ Token.end_array ∷ [] → before ++ list_tokens f (drop i xs) ≡ whole → after ≡ whole
last {A = A} f before after whole xs i end written so_far =
    written ∙ ap (λ (t : List A). before ++ list_tokens f t) (sym (drop_all i xs end)) ∙ so_far

-- A map from names to trees, as the members that it stands for.
use Rattle.std.proofs.Common.{◌≡◌, ◌<◌, ◌+◌, ℕ, List, [], ◌∷◌, length, drop, get_or, Bor, Global, Ordering, Less, Equal, Greater, nat_cmp, refl, ap, ap₂, sym, ◌∙◌}
use Rattle.std.proofs.lemmas.List.{drop_more}
use Rattle.std.specs.Cmp.Lexicographic.{slice_cmp}
use Rattle.std.specs.Ordering.{match_ordering}
use Rattle.std.specs.BTreeMap.{insert_entry}
use Rattle.json.specs.Json.{Members, member}
use Rattle.json.specs.Value.{members_view, value_view}
use Rattle.json.specs.declared.value.Value.{Value}
use Rattle.serde_json.specs.Data.{put}
use Rattle.rv_json.specs.Documents.{members_of}
use Rattle.rv_json.specs.ValueData.{value_data, members_data}

abbrev pub Entry : Type 0
Entry = Bor (List ℕ) × Bor (Value Global)

abbrev pub name_cmp : Bor (List ℕ) → Bor (List ℕ) → Ordering
name_cmp one other = slice_cmp nat_cmp one.now other.now

by_ordering : (o : Ordering) (a b c : List Entry) → members_data (match_ordering o a b c) ≡ match_ordering o (members_data a) (members_data b) (members_data c)
by_ordering Less a b c = refl
by_ordering Equal a b c = refl
by_ordering Greater a b c = refl

pub members_data-insert_entry : (es : List Entry) (k : Bor (List ℕ)) (v : Bor (Value Global)) → members_data (insert_entry name_cmp es k v) ≡ put k.now (value_data v.now) (members_data es)
members_data-insert_entry [] k v = refl
members_data-insert_entry (e ∷ es) k v = by_ordering (name_cmp k e.0) _ _ _ ∙ rw (members_data-insert_entry es k v)

-- a member more is put among those that stand
pub one_more : (ms : List (Bor (List ℕ) × Value Global)) (i : ℕ) (m : Bor (List ℕ) × Value Global) (es after : List Entry) (k : Bor (List ℕ)) (v : Bor (Value Global))
    → i < length ms → m ≡ get_or ms i m → k.now ≡ m.0.now → v.now ≡ m.1 → after ≡ insert_entry name_cmp es k v
    → members_of (members_view (drop i ms)) (members_data es) ≡ members_of (members_view (drop (i + 1) ms)) (members_data after)
one_more ms i m es after k v lt is name value put_there =
    let rest = members_view (drop (i + 1) ms) in
    let here : members_view (drop i ms) ≡ member m.0.now (value_view m.1) rest = ap members_view (drop_more ms i m lt ∙ ap (λ (x : Bor (List ℕ) × Value Global). x ∷ drop (i + 1) ms) (sym is)) in
    let found : members_data after ≡ put m.0.now (value_data m.1) (members_data es) = ap members_data put_there ∙ members_data-insert_entry es k v ∙ ap₂ (λ (n : List ℕ) (x : Value Global). put n (value_data x) (members_data es)) name value in
    ap (λ (js : Members). members_of js (members_data es)) here ∙ ap (members_of rest) (sym found)

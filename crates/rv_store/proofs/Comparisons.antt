-- What a book has, gone through one after another, while its cells are compared with the loaded ones.
use Rattle.std.proofs.Common.{◌≡◌, ℕ, Bool, zero, suc, ◌+◌, ◌<◌, ◌≤◌, List, [], ◌∷◌, ◌++◌, length, get_or, drop, map, slice_get, Option, Some, None, Result, Ok, Err, IsErrAnd, MatchResult, refl, sym, ap, ◌∙◌, subst, arith}
use Rattle.std.proofs.lemmas.List.{drop_more, drop_all}
use Rattle.rv_keeper.specs.declared.cell.Cell.{Cell}
use Rattle.rv_record.specs.declared.fault.CellFault.{CellFault}
use Rattle.rv_store.specs.OpeningSteps.{Departs}
use Rattle.rv_store.proofs.FirstDifference.{Met, met_more, met_ends, met_fails}

-- ---- what is left at an index

pub left_at : {X : Type 0} (xs : List X) (i : ℕ) (x : X) → i < length xs → x ≡ get_or xs i x → drop i xs ≡ x ∷ drop (i + 1) xs
left_at xs i x below is = drop_more xs i x below ∙ ap (λ y. y ∷ drop (i + 1) xs) (sym is)

pub left_got : {X : Type 0} (xs : List X) (i : ℕ) (x : X) → Some x ≡ slice_get xs i → drop i xs ≡ x ∷ drop (i + 1) xs
left_got [] i x got = absurd (cc)
left_got (y ∷ xs) zero x got = let same : x ≡ y = cc in ap (λ z. z ∷ xs) (sym same)
left_got (y ∷ xs) (suc i) x got = let next : suc (i + 1) ≡ suc i + 1 = omega arith in left_got xs i x got ∙ ap (λ (n : ℕ). x ∷ drop n (y ∷ xs)) next

pub none_left : {X : Type 0} (xs : List X) (i : ℕ) → None ≡ slice_get xs i → drop i xs ≡ []
none_left [] zero none = refl
none_left [] (suc i) none = refl
none_left (x ∷ xs) zero none = absurd (cc)
none_left (x ∷ xs) (suc i) none = none_left xs i none

-- nothing is left at the end
pub none_left_at_end : {X : Type 0} (xs : List X) (count index : ℕ) → count ≡ length xs → count ≤ index → drop index xs ≡ []
none_left_at_end xs count index whole ends = drop_all index xs (omega (arith, whole, ends))

-- ---- one after another

module _ {X : Type 0} (cell_of : X → Cell) (own loaded : List Cell) where
  pub each_more : (items later : List X) (item : X) (made : Cell) (rest others : List Cell) → items ≡ item ∷ later → made ≡ cell_of item → rest ≡ made ∷ others → Met own (map cell_of items) loaded rest → Met own (map cell_of later) loaded others
  each_more items later item made rest others next is same met =
      met_more own (map cell_of items) loaded rest (cell_of item) (map cell_of later) others (ap (map cell_of) next) (same ∙ ap (λ (c : Cell). c ∷ others) is) met

  pub each_fails : {T : Type 0} (items later : List X) (item : X) (made : Cell) (rest : List Cell) (fault : CellFault) (P : T → Type 0) (r : Result T CellFault) → IsErrAnd r (λ d. d ≡ fault) → items ≡ item ∷ later → made ≡ cell_of item
      → Departs (made ∷ []) rest fault → Met own (map cell_of items) loaded rest → MatchResult r P (λ d. Departs own loaded d)
  each_fails items later item made rest fault P (Ok x) fails next is departs met = absurd fails
  each_fails items later item made rest fault P (Err d) fails next is departs met =
      met_fails own (map cell_of items) loaded rest (cell_of item) (map cell_of later) d (ap (map cell_of) next) (subst (λ (c : Cell). Departs (c ∷ []) rest d) is (subst (Departs (made ∷ []) rest) (sym fails) departs)) met

  pub each_ends : (items : List X) (rest : List Cell) → items ≡ [] → Met own (map cell_of items) loaded rest → loaded ≡ own ++ rest
  each_ends items rest none met = met_ends own (map cell_of items) loaded rest (ap (map cell_of) none) met

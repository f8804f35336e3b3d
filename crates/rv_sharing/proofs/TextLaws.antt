-- Laws of texts in the order of their bytes, each once.
use Rattle.std.proofs.Common.{◌≡◌, ℕ, Bool, true, false, cond, List, [], ◌∷◌, ◌++◌, get_or, take, drop, Some, Result, Ok, Err, refl, sym, ap, ◌∙◌, subst, ◌||◌, ◌&&◌}
use Rattle.std.specs.Prelude.{IfOk}
use Rattle.std.specs.declared.cmp.Ordering.TheVariants.{Less, Equal, Greater}
use Rattle.std.specs.Ordering.{nat_cmp, match_ordering}
use Rattle.std.specs.Cmp.Lexicographic.{slice_cmp}
use Rattle.std.specs.List.{list_any}
use Rattle.std.specs.Str.{bytes_eq}
use Rattle.std.proofs.lemmas.Slice.Eq.{bytes_eq-Decides}
use Rattle.rv_base.specs.Sorted.{find_by, put_by, IsPositionOf}
use Rattle.rv_base.specs.PositionLaws.{same_from, in_order-put}
use Rattle.rv_sharing.specs.Texts.{AreInOrder, AddsText, AddsTextIf}

abbrev pub text_key : List ℕ → List ℕ
text_key text = text

or_twice : (a c : Bool) → (a || c) ≡ (a || (a || c))
or_twice true c = refl
or_twice false c = refl

or_swap : (a b c : Bool) → (a || (b || c)) ≡ (b || (a || c))
or_swap true true c = refl
or_swap true false c = refl
or_swap false b c = refl

pub or_moved : (a b c : Bool) → ((a || b) || c) ≡ (b || (a || c))
or_moved true true c = refl
or_moved true false c = refl
or_moved false b c = refl

pub or_false : (b : Bool) → b ≡ (b || false)
or_false true = refl
or_false false = refl

-- a text that comes on a condition
pub adds_when : {E : Type 0} (flag : Bool) (text : List ℕ) (before : List (List ℕ)) (r : Result (List (List ℕ)) E) → flag ≡ true → IfOk r (AddsText text before) → IfOk r (AddsTextIf flag text before)
adds_when flag text before (Ok after) is adds = record { order = adds.order; each = λ p. adds.each p ∙ ap (λ (b : Bool). (b && p text) || list_any p before) (sym is) }
adds_when flag text before (Err e) is adds = tt

pub adds_none : (flag : Bool) (text : List ℕ) (before : List (List ℕ)) → flag ≡ false → AreInOrder before → AddsTextIf flag text before before
adds_none flag text before is order = record { order = order; each = λ p. ap (λ (b : Bool). (b && p text) || list_any p before) (sym is) }

module _ (p : List ℕ → Bool) where
  any-put : (x : List ℕ) (xs : List (List ℕ)) → list_any p (put_by text_key x xs) ≡ (p x || list_any p xs)
  any-put x [] = refl
  any-put x (y ∷ ys) =
      elim (slice_cmp nat_cmp x y) as (λ o. slice_cmp nat_cmp x y ≡ o → list_any p (match_ordering o (x ∷ y ∷ ys) (x ∷ ys) (y ∷ put_by text_key x ys)) ≡ (p x || (p y || list_any p ys))) [
        | Less ↦ λ e. refl
        | Equal ↦ λ e. subst (λ (z : List ℕ). (p x || list_any p ys) ≡ (p x || (p z || list_any p ys))) (same_from x y e) (or_twice (p x) (list_any p ys))
        | Greater ↦ λ e. ap (λ (b : Bool). p y || b) (any-put x ys) ∙ or_swap (p y) (p x) (list_any p ys)
      ] refl

  any-kept : (x z : List ℕ) (xs : List (List ℕ)) → find_by text_key x xs ≡ Some z → list_any p xs ≡ (p x || list_any p xs)
  any-kept x z [] h = absurd (cc)
  any-kept x z (y ∷ ys) h =
      elim (bytes_eq x y) as (λ b. bytes_eq x y ≡ b → cond b (Some y) (find_by text_key x ys) ≡ Some z → (p y || list_any p ys) ≡ (p x || (p y || list_any p ys))) [
        | true ↦ λ e f. subst (λ (w : List ℕ). (p y || list_any p ys) ≡ (p w || (p y || list_any p ys))) (sym ((bytes_eq-Decides x y).0 e)) (or_twice (p y) (list_any p ys))
        | false ↦ λ e f. ap (λ (b : Bool). p y || b) (any-kept x z ys f) ∙ or_swap (p y) (p x) (list_any p ys)
      ] refl h

-- a text that is found is kept
pub kept : (k : List ℕ) (xs ys : List (List ℕ)) (i : ℕ) → ys ≡ xs → AreInOrder xs → IsPositionOf text_key k ys (Ok i) → AddsText k xs xs
kept k xs ys i same order s = record { order = order; each = λ p. any-kept p k _ xs (subst (λ (zs : List (List ℕ)). find_by text_key k zs ≡ Some (get_or ys i k)) same (s.found k)) }

-- one that is not found comes to its place
pub added : (k : List ℕ) (xs ys zs : List (List ℕ)) (i : ℕ) → ys ≡ xs → AreInOrder xs → IsPositionOf text_key k ys (Err i) → zs ≡ take i xs ++ k ∷ drop i xs → AddsText k xs zs
added k xs ys zs i same order s is =
    subst (λ (vs : List (List ℕ)). AddsText k xs vs) (ap (λ (ws : List (List ℕ)). put_by text_key k ws) (sym same) ∙ s.inserted k refl ∙ ap (λ (ws : List (List ℕ)). take i ws ++ k ∷ drop i ws) same ∙ sym is)
    (record { order = in_order-put text_key k xs order; each = λ p. any-put p k xs })

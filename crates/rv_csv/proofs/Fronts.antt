-- Lists of what distinct things give, and fronts of lists.
use Rattle.std.proofs.Common.{◌≡◌, ℕ, ◌<◌, List, [], ◌∷◌, ◌++◌, length, map, refl, sym, ap, ◌∙◌, arith}
use Rattle.std.specs.List.{AllByRecursion}
use Rattle.rv_base.specs.Sorted.{InOrder}

-- the first of a list that has one, and what comes after it
abbrev first_or : {X : Type 0} → X → List X → X
first_or x [] = x
first_or x (y ∷ ys) = y

abbrev after_first : {X : Type 0} → List X → List X
after_first [] = []
after_first (y ∷ ys) = ys

pub same_first : {X : Type 0} (x y : X) (xs ys : List X) → x ∷ xs ≡ y ∷ ys → x ≡ y
same_first x y xs ys e = ap (first_or x) e

pub same_rest : {X : Type 0} (x y : X) (xs ys : List X) → x ∷ xs ≡ y ∷ ys → xs ≡ ys
same_rest x y xs ys e = ap after_first e

pub all_front : {X : Type 0} (P : X → Type 0) (xs : List X) (y : X) (ys : List X) → AllByRecursion P (xs ++ y ∷ ys) → AllByRecursion P (xs ++ y ∷ [])
all_front P [] y ys h = (h.0, tt)
all_front P (x ∷ xs) y ys h = (h.0, all_front P xs y ys h.1)

pub order_front : {X : Type 0} (key : X → List ℕ) (xs : List X) (y : X) (ys : List X) → InOrder key (xs ++ y ∷ ys) → InOrder key (xs ++ y ∷ [])
order_front key [] y ys h = (tt, tt)
order_front key (x ∷ xs) y ys h = (all_front _ xs y ys h.0, order_front key xs y ys h.1)

module _ {X R : Type 0} (f : X → R) (Fits : X → Type 0) (same : (a b : X) → Fits a → Fits b → f a ≡ f b → a ≡ b) where
  -- of two lists that begin alike the longer goes on where the shorter ends
  pub goes_on : (xs ys : List X) (r : R) (rest tail : List R) → AllByRecursion Fits xs → AllByRecursion Fits ys → length xs < length ys → map f xs ++ r ∷ rest ≡ map f ys ++ tail
      → (y : X) × (more : List X) × (ys ≡ xs ++ y ∷ more) × (r ≡ f y)
  goes_on [] [] r rest tail h g less e = absurd (omega (arith, less))
  goes_on [] (y ∷ ys) r rest tail h g less e = (y, ys, refl, same_first _ _ _ _ e)
  goes_on (x ∷ xs) [] r rest tail h g less e = absurd (omega (arith, less))
  goes_on (x ∷ xs) (y ∷ ys) r rest tail h g less e =
      let is = same x y h.0 g.0 (same_first _ _ _ _ e) in
      let more = goes_on xs ys r rest tail h.1 g.1 (omega (arith, less)) (same_rest _ _ _ _ e) in
      (more.0, more.1, ap (λ (z : X). z ∷ ys) (sym is) ∙ ap (λ (zs : List X). x ∷ zs) more.2, more.3)

  pub same_map : (xs ys : List X) → AllByRecursion Fits xs → AllByRecursion Fits ys → map f xs ≡ map f ys → xs ≡ ys
  same_map [] [] h g e = refl
  same_map [] (y ∷ ys) h g e = absurd (omega (arith, ap length e))
  same_map (x ∷ xs) [] h g e = absurd (omega (arith, ap length e))
  same_map (x ∷ xs) (y ∷ ys) h g e =
      let is = same x y h.0 g.0 (same_first _ _ _ _ e) in
      ap (λ (z : X). z ∷ xs) is ∙ ap (λ (zs : List X). y ∷ zs) (same_map xs ys h.1 g.1 (same_rest _ _ _ _ e))

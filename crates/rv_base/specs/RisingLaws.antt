-- The test whether keys rise tells whether they are in order.
use Rattle.std.proofs.Common.{◌≡◌, ℕ, zero, suc, ◌+◌, ◌-◌, ◌<◌, ◌≤◌, ◌&&◌, List, [], ◌∷◌, length, get_or, drop, Bool, true, false, Ordering, refl, sym, ap, ◌∙◌, subst, arith}
use Rattle.std.specs.declared.cmp.Ordering.TheVariants.{Less, Equal, Greater}
use Rattle.std.specs.Cmp.Lexicographic.{slice_cmp}
use Rattle.std.specs.Ordering.{nat_cmp, match_ordering}
use Rattle.std.proofs.lemmas.Bool.{and_parts}
use Rattle.rv_base.specs.Sorted.{InOrder, is_below, rises_from, is_in_order, Below}
use Rattle.rv_base.specs.PositionLaws.{above_chain}

below-is : (o : Ordering) → match_ordering o true false false ≡ true → o ≡ Less
below-is Less e = refl
below-is Equal e = absurd cc
below-is Greater e = absurd cc

module _ {X : Type 0} (key : X → List ℕ) where
  order_rises : (x : X) (xs : List X) → InOrder key (x ∷ xs) → rises_from key x xs ≡ true
  order_rises x [] h = refl
  order_rises x (y ∷ ys) h = rw (h.0.0, order_rises y ys h.1) refl

  pub order_is : (xs : List X) → InOrder key xs → is_in_order key xs ≡ true
  order_is [] h = refl
  order_is (x ∷ xs) h = order_rises x xs h

  rises_order : (x : X) (xs : List X) → rises_from key x xs ≡ true → InOrder key (x ∷ xs)
  rises_order x [] e = (tt, tt)
  rises_order x (y ∷ ys) e =
      let parts = and_parts (is_below key x y) (rises_from key y ys) e in
      let low : Below (key x) (key y) = below-is (slice_cmp nat_cmp (key x) (key y)) parts.0 in
      let later = rises_order y ys parts.1 in
      ((low, above_chain key (key x) (key y) ys low later.0), later)

  pub in_order-from_test : (xs : List X) → is_in_order key xs ≡ true → InOrder key xs
  in_order-from_test [] e = tt
  in_order-from_test (x ∷ xs) e = rises_order x xs e

  -- whether the neighbours from a place on are in order
  next_pair : (xs : List X) (k : ℕ) (d e : X) → suc k < length xs → is_in_order key (drop k xs) ≡ (is_below key (get_or xs k d) (get_or xs (suc k) e) && is_in_order key (drop (suc k) xs))
  next_pair [] k d e lt = absurd (omega arith)
  next_pair (x ∷ []) k d e lt = absurd (omega arith)
  next_pair (x ∷ y ∷ ys) zero d e lt = refl
  next_pair (x ∷ y ∷ ys) (suc k) d e lt = next_pair (y ∷ ys) k d e (omega arith)

  last_one : (xs : List X) (k : ℕ) → length xs ≤ suc k → is_in_order key (drop k xs) ≡ true
  last_one [] zero le = refl
  last_one [] (suc k) le = refl
  last_one (x ∷ []) zero le = refl
  last_one (x ∷ []) (suc k) le = last_one [] k (omega arith)
  last_one (x ∷ y ∷ ys) zero le = absurd (omega arith)
  last_one (x ∷ y ∷ ys) (suc k) le = last_one (y ∷ ys) k (omega arith)

  -- a neighbour that is above the one before
  pub stays_in_order : (xs : List X) (i : ℕ) (d e : X) (whole : Bool) → 1 ≤ i → i < length xs → whole ≡ is_in_order key (drop (i - 1) xs) → Less ≡ slice_cmp nat_cmp (key (get_or xs (i - 1) d)) (key (get_or xs i e)) → whole ≡ is_in_order key (drop (i + 1 - 1) xs)
  stays_in_order xs zero d e whole low lt so_far below = absurd (omega arith)
  stays_in_order xs (suc k) d e whole low lt so_far below =
      let before : suc k - 1 ≡ k = omega arith in
      let after : suc k + 1 - 1 ≡ suc k = omega arith in
      let less : Less ≡ slice_cmp nat_cmp (key (get_or xs k d)) (key (get_or xs (suc k) e)) = subst (λ (j : ℕ). Less ≡ slice_cmp nat_cmp (key (get_or xs j d)) (key (get_or xs (suc k) e))) before below in
      so_far ∙ ap (λ (j : ℕ). is_in_order key (drop j xs)) before ∙ next_pair xs k d e lt
      ∙ ap (λ (o : Ordering). match_ordering o true false false && is_in_order key (drop (suc k) xs)) (sym less) ∙ ap (λ (j : ℕ). is_in_order key (drop j xs)) (sym after)

  -- no neighbour is left
  pub was_in_order : (xs : List X) (i : ℕ) (whole : Bool) → 1 ≤ i → length xs ≤ i → whole ≡ is_in_order key (drop (i - 1) xs) → true ≡ whole
  was_in_order xs zero whole low le so_far = absurd (omega arith)
  was_in_order xs (suc k) whole low le so_far =
      let before : suc k - 1 ≡ k = omega arith in
      sym (so_far ∙ ap (λ (j : ℕ). is_in_order key (drop j xs)) before ∙ last_one xs k le)

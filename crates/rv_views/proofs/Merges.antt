-- The steps of a walk along two lists in the order of their keys.
use Rattle.std.proofs.Common.{◌≡◌, ℕ, zero, suc, ◌+◌, ◌<◌, Bool, true, false, cond, not, ◌||◌, List, [], ◌∷◌, ◌++◌, length, get_or, drop, drop-cons, add-one, append_assoc, refl, sym, ap, ◌∙◌, subst}
use Rattle.std.specs.declared.cmp.Ordering.TheVariants.{Less, Equal, Greater}
use Rattle.std.specs.Ordering.{nat_cmp, is_lt, is_eq}
use Rattle.std.specs.Cmp.Lexicographic.{slice_cmp}
use Rattle.std.specs.Str.{bytes_eq}
use Rattle.std.specs.List.{filter, list_any}
use Rattle.std.proofs.lemmas.Cmp.{nat_list_cmp_total}
use Rattle.std.proofs.lemmas.Map.Text.{is_eq-slice_cmp}
use Rattle.rv_base.specs.Sorted.{InOrder, Below}
use Rattle.rv_base.specs.PositionLaws.{Above, below_is, same_from, differs, differs_back, above_chain}
use Rattle.rv_views.specs.Walks.{rest_from, begins_with}

-- keys compare as equal exactly where their bytes are
pub same_text : (a b : List ℕ) → is_eq (slice_cmp nat_cmp a b) ≡ bytes_eq a b
same_text = is_eq-slice_cmp

-- the items from a place on begin with the item at that place
pub drop_at_item : {X : Type 0} (xs : List X) (i : ℕ) (x : X) → i < length xs → x ≡ get_or xs i x → drop i xs ≡ x ∷ drop (i + 1) xs
drop_at_item {X} xs i x lt is = rw (add-one) (drop-cons xs i x lt ∙ ap (λ (z : X). z ∷ drop (suc i) xs) (sym is))

or_else_not : (a b : Bool) → b ≡ false → (a || b) ≡ a
or_else_not true b none = refl
or_else_not false b none = none

module _ {X : Type 0} (key : X → List ℕ) where
  -- what is left of items in order is in order
  pub rest_order : (k : List ℕ) (ys : List X) → InOrder key ys → InOrder key (rest_from key k ys)
  rest_order k [] h = tt
  rest_order k (y ∷ ys) h = elim (is_lt (slice_cmp nat_cmp (key y) k)) as (λ b. InOrder key (cond b (rest_from key k ys) (y ∷ ys))) [ true ↦ rest_order k ys h.1 | false ↦ h ]

  pub in_order-drop : (i : ℕ) (xs : List X) → InOrder key xs → InOrder key (drop i xs)
  in_order-drop zero xs h = h
  in_order-drop (suc i) [] h = tt
  in_order-drop (suc i) (x ∷ xs) h = in_order-drop i xs h.1

-- items that meet others with the same key alone
module _ {X : Type 0} (key : X → List ℕ) (meets : X → X → Bool) (apart : (y x : X) → bytes_eq (key y) (key x) ≡ false → meets y x ≡ false) where
  -- some item meets x
  abbrev pub met : List X → X → Bool
  met ys x = list_any (λ y. meets y x) ys

  -- the items that none meets
  abbrev pub unmet : List X → List X → List X
  unmet ys xs = filter (λ x. not (met ys x)) xs

  -- items above x do not meet it
  pub met_above : (x : X) (ys : List X) → Above key (key x) ys → met ys x ≡ false
  met_above x [] all = refl
  met_above x (y ∷ ys) all = rw (apart y x (differs_back (key x) (key y) all.0)) (met_above x ys all.1)

  -- an item that is above all that is passed is met by the same as before
  met_rest : (k : List ℕ) (x : X) (ys : List X) → Below k (key x) → met (rest_from key k ys) x ≡ met ys x
  met_rest k x [] low = refl
  met_rest k x (y ∷ ys) low =
      elim (slice_cmp nat_cmp (key y) k) as (λ o. slice_cmp nat_cmp (key y) k ≡ o → met (cond (is_lt o) (rest_from key k ys) (y ∷ ys)) x ≡ (meets y x || met ys x)) [
        | Less ↦ λ e. rw (apart y x (differs (key y) (key x) (nat_list_cmp_total.trans (key y) k (key x) e low))) (met_rest k x ys low)
        | Equal ↦ λ e. refl
        | Greater ↦ λ e. refl
      ] refl

  -- after a walk to the key of x, only the first item that is left may meet x
  met_first : (x : X) (ys : List X) → InOrder key ys → met ys x ≡ begins_with (λ y. meets y x) (rest_from key (key x) ys)
  met_first x [] h = refl
  met_first x (y ∷ ys) h =
      elim (slice_cmp nat_cmp (key y) (key x)) as (λ o. slice_cmp nat_cmp (key y) (key x) ≡ o → (meets y x || met ys x) ≡ begins_with (λ y. meets y x) (cond (is_lt o) (rest_from key (key x) ys) (y ∷ ys))) [
        | Less ↦ λ e. rw (apart y x (differs (key y) (key x) e)) (met_first x ys h.1)
        | Equal ↦ λ e. or_else_not (meets y x) (met ys x) (met_above x ys (subst (λ (k : List ℕ). Above key k ys) (same_from (key y) (key x) e) h.0))
        | Greater ↦ λ e. or_else_not (meets y x) (met ys x) (met_above x ys (above_chain key (key x) (key y) ys (below_is (key y) (key x) e) h.0))
      ] refl

  -- the items above k are met by the same after a walk to k
  unmet_rest : (k : List ℕ) (xs ys : List X) → Above key k xs → unmet ys xs ≡ unmet (rest_from key k ys) xs
  unmet_rest k [] ys all = refl
  unmet_rest k (x ∷ xs) ys all = rw (met_rest k x ys all.0) (ap (λ (t : List X). cond (not (met ys x)) (x ∷ t) t) (unmet_rest k xs ys all.1))

  -- one step: the item is taken where the first that is left does not meet it
  pub unmet_step : (x : X) (xs ys : List X) → InOrder key (x ∷ xs) → InOrder key ys
      → unmet ys (x ∷ xs) ≡ cond (not (begins_with (λ y. meets y x) (rest_from key (key x) ys))) (x ∷ unmet (rest_from key (key x) ys) xs) (unmet (rest_from key (key x) ys) xs)
  unmet_step x xs ys order h = rw (met_first x ys h, unmet_rest (key x) xs ys order.0) refl

  -- one step at a place of the list
  unmet_at : (xs ys rest : List X) (i : ℕ) (x : X) → i < length xs → x ≡ get_or xs i x → InOrder key xs → InOrder key ys → rest ≡ rest_from key (key x) ys
      → unmet ys (drop i xs) ≡ cond (not (begins_with (λ y. meets y x) rest)) (x ∷ unmet rest (drop (i + 1) xs)) (unmet rest (drop (i + 1) xs))
  unmet_at xs ys rest i x lt is order h walked =
      let e : drop i xs ≡ x ∷ drop (i + 1) xs = drop_at_item xs i x lt is in
      rw walked (ap (unmet ys) e ∙ unmet_step x (drop (i + 1) xs) ys (subst (InOrder key) e (in_order-drop key i xs order)) h)

  -- what is kept, and what is to be kept of the items that are left, stays the same
  pub taken : (xs ys rest : List X) (i : ℕ) (x : X) (kept all : List X) → i < length xs → x ≡ get_or xs i x → InOrder key xs → InOrder key ys → rest ≡ rest_from key (key x) ys
      → begins_with (λ y. meets y x) rest ≡ false → kept ++ unmet ys (drop i xs) ≡ all → (kept ++ x ∷ []) ++ unmet rest (drop (i + 1) xs) ≡ all
  taken xs ys rest i x kept all lt is order h walked none ahead =
      let e : unmet ys (drop i xs) ≡ x ∷ unmet rest (drop (i + 1) xs) = unmet_at xs ys rest i x lt is order h walked ∙ rw none refl in
      append_assoc kept (x ∷ []) (unmet rest (drop (i + 1) xs)) ∙ ap (λ (t : List X). kept ++ t) (sym e) ∙ ahead

  pub passed : (xs ys rest : List X) (i : ℕ) (x : X) (kept all : List X) → i < length xs → x ≡ get_or xs i x → InOrder key xs → InOrder key ys → rest ≡ rest_from key (key x) ys
      → begins_with (λ y. meets y x) rest ≡ true → kept ++ unmet ys (drop i xs) ≡ all → kept ++ unmet rest (drop (i + 1) xs) ≡ all
  passed xs ys rest i x kept all lt is order h walked some ahead =
      let e : unmet ys (drop i xs) ≡ unmet rest (drop (i + 1) xs) = unmet_at xs ys rest i x lt is order h walked ∙ rw some refl in
      ap (λ (t : List X). kept ++ t) (sym e) ∙ ahead

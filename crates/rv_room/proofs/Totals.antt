-- Lists of views, added up and changed at one place.
use Rattle.std.proofs.Common.{◌≡◌, ◌⊎◌, ℕ, zero, suc, ◌+◌, ◌≤◌, List, [], ◌∷◌, ◌++◌, length, set, refl, sym, ap, ◌∙◌, inl, inr, ⊎_elim, arith, Some}
use Rattle.std.specs.Prelude.{slice_get}
use Rattle.std.specs.List.{AllByRecursion}
use mathlib.Core.Option.{some, some-injective, some-ne-none}
use lib.ListN.{get_elem?}
use Rattle.rv_room.specs.Lists.{hit, total, once_below, count_at}

module _ {X : Type 0} where
  pub total_set : (f : X → ℕ) (xs : List X) (j : ℕ) (v w : X) → get_elem? xs j ≡ some v → total f (set xs j w) + f v ≡ total f xs + f w
  total_set f [] j v w e = absurd (some-ne-none v (sym e))
  total_set f (x ∷ xs) zero v w e = let s : f x ≡ f v = ap f (some-injective _ _ e) in omega arith
  total_set f (x ∷ xs) (suc j) v w e = let r = total_set f xs j v w e in omega arith

  pub total_snoc : (f : X → ℕ) (xs : List X) (w : X) → total f (xs ++ w ∷ []) ≡ total f xs + f w
  total_snoc f [] w = omega arith
  total_snoc f (x ∷ xs) w = let r = total_snoc f xs w in omega arith

  pub total_le : (f g : X → ℕ) (xs : List X) → ((j : ℕ) (v : X) → get_elem? xs j ≡ some v → f v ≤ g v) → total f xs ≤ total g xs
  total_le f g [] h = omega arith
  total_le f g (x ∷ xs) h = let a = h zero x refl in let r = total_le f g xs (λ j v e. h (suc j) v e) in omega arith

  pub total_has : (f : X → ℕ) (xs : List X) (j : ℕ) (v : X) → get_elem? xs j ≡ some v → f v ≤ total f xs
  total_has f [] j v e = absurd (some-ne-none v (sym e))
  total_has f (x ∷ xs) zero v e = let s : f x ≡ f v = ap f (some-injective _ _ e) in omega arith
  total_has f (x ∷ xs) (suc j) v e = let r = total_has f xs j v e in omega arith

  total_none : (f g : X → ℕ) (xs : List X) → total g xs ≡ 0 → ((i : ℕ) (u : X) → get_elem? xs i ≡ some u → g u ≡ 0 → f u ≡ 0) → total f xs ≡ 0
  total_none f g [] e h = refl
  total_none f g (x ∷ xs) e h = let a = h zero x refl (omega arith) in let r = total_none f g xs (omega arith) (λ i u t. h (suc i) u t) in omega arith

  -- who has all of g has all of f
  pub total_alone : (f g : X → ℕ) (xs : List X) (j : ℕ) (v : X) → get_elem? xs j ≡ some v → total g xs ≡ g v → ((i : ℕ) (u : X) → get_elem? xs i ≡ some u → g u ≡ 0 → f u ≡ 0) → total f xs ≡ f v
  total_alone f g [] j v e all h = absurd (some-ne-none v (sym e))
  total_alone f g (x ∷ xs) zero v e all h =
      let s : g x ≡ g v = ap g (some-injective _ _ e) in let s' : f x ≡ f v = ap f (some-injective _ _ e) in
      let r = total_none f g xs (omega arith) (λ i u t. h (suc i) u t) in omega arith
  total_alone f g (x ∷ xs) (suc j) v e all h =
      let m = total_has g xs j v e in let a = h zero x refl (omega arith) in
      let r = total_alone f g xs j v e (omega arith) (λ i u t. h (suc i) u t) in omega arith

  pub here : (xs : List X) (j : ℕ) (v w : X) → get_elem? xs j ≡ some v → get_elem? (set xs j w) j ≡ some w
  here [] j v w e = absurd (some-ne-none v (sym e))
  here (x ∷ xs) zero v w e = refl
  here (x ∷ xs) (suc j) v w e = here xs j v w e

  pub same_at : (xs : List X) (i j : ℕ) (u v : X) → get_elem? xs i ≡ some u → get_elem? xs j ≡ some v → i ≡ j → u ≡ v
  same_at xs i j u v a b e = some-injective u v (sym a ∙ ap (λ k. get_elem? xs k) e ∙ b)

  pub all_map : (P Q : X → Type 0) (xs : List X) → ((x : X) → P x → Q x) → AllByRecursion P xs → AllByRecursion Q xs
  all_map P Q [] f h = tt
  all_map P Q (x ∷ xs) f h = (f x h.0, all_map P Q xs f h.1)

  pub all_append : (P : X → Type 0) (xs ys : List X) → AllByRecursion P xs → AllByRecursion P ys → AllByRecursion P (xs ++ ys)
  all_append P [] ys a b = b
  all_append P (x ∷ xs) ys a b = (a.0, all_append P xs ys a.1 b)

  pub all_split : (P : X → Type 0) (xs ys : List X) → AllByRecursion P (xs ++ ys) → AllByRecursion P xs × AllByRecursion P ys
  all_split P [] ys e = (tt, e)
  all_split P (x ∷ xs) ys e = let r = all_split P xs ys e.1 in ((e.0, r.0), r.1)

  pub get_front : (xs ys : List X) (k : ℕ) (p : X) → slice_get xs k ≡ Some p → slice_get (xs ++ ys) k ≡ Some p
  get_front [] ys k p e = absurd (cc)
  get_front (x ∷ xs) ys zero p e = e
  get_front (x ∷ xs) ys (suc k) p e = get_front xs ys k p e

  pub get_last : (xs : List X) (p : X) → slice_get (xs ++ p ∷ []) (length xs) ≡ Some p
  get_last [] p = refl
  get_last (x ∷ xs) p = get_last xs p

  pub get_back : (xs ys : List X) (k : ℕ) (p : X) → slice_get ys k ≡ Some p → (j : ℕ) × (slice_get (xs ++ ys) j ≡ Some p)
  get_back [] ys k p e = (k, e)
  get_back (x ∷ xs) ys k p e = let r = get_back xs ys k p e in (suc r.0, r.1)

  pub get_split : (xs ys : List X) (k : ℕ) (p : X) → slice_get (xs ++ ys) k ≡ Some p → ((j : ℕ) × (slice_get xs j ≡ Some p)) ⊎ ((j : ℕ) × (slice_get ys j ≡ Some p))
  get_split [] ys k p e = inr (k, e)
  get_split (x ∷ xs) ys zero p e = inl (0, e)
  get_split (x ∷ xs) ys (suc k) p e = ⊎_elim (λ t. inl (suc t.0, t.1)) (λ t. inr t) (get_split xs ys k p e)

  pub count_at-append : (p : ℕ) (xs ys : List (ℕ × X)) → count_at p (xs ++ ys) ≡ count_at p xs + count_at p ys
  count_at-append p [] ys = omega arith
  count_at-append p (x ∷ xs) ys = let r = count_at-append p xs ys in omega arith

pub below_next : (p n : ℕ) → once_below p (n + 1) ≡ hit n p + once_below p n
below_next p n = let e : n + 1 ≡ suc n = omega arith in ap (once_below p) e

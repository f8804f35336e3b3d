-- Laws of items that are put in the order of their keys, where no two have one key.
use Rattle.std.proofs.Common.{append-nil, ◌≡◌, ℕ, Bool, true, false, cond, List, [], ◌∷◌, ◌++◌, map, Option, Some, None, refl, sym, ap, ◌∙◌, subst}
use Rattle.std.specs.declared.cmp.Ordering.TheVariants.{Less, Equal, Greater}
use Rattle.std.specs.Ordering.{nat_cmp, match_ordering}
use Rattle.std.specs.Cmp.Lexicographic.{slice_cmp}
use Rattle.std.specs.Str.{bytes_eq}
use Rattle.std.specs.List.{filter, fold, list_any, AllByRecursion}
use Rattle.std.specs.Option.{option_map, option_or}
use Rattle.std.specs.List.Sorted.{IsPermutation}
use Rattle.std.proofs.lemmas.Slice.Eq.{bytes_eq-Decides}
use Rattle.std.proofs.lemmas.Option.{none-some, same_Some}
use Rattle.std.proofs.lemmas.Map.Entries.{option_filter}
use Rattle.std.proofs.lemmas.List.Sums.{fold_push}
use Rattle.std.proofs.lemmas.List.Sorted.{IsPermutation-refl, IsPermutation-sym, IsPermutation-trans, IsPermutation-cons, IsPermutation-middle, IsPermutation-append_right, list_any-IsPermutation}
use Rattle.rv_base.specs.Sorted.{find_by, put_by, InOrder, sorted_by, Distinct, Below}
use Rattle.rv_base.specs.PositionLaws.{Above, below_is, same_from, equals, above_chain, find_above, in_order-sorted, in_order-filter, not_same, others, find_put, find-push_other}

-- what is found in one list or else in another, after an item that shadows
shadows : {X : Type 0} (b : Bool) (x : X) (o p : Option X) → (b ≡ true → o ≡ None) → option_or o (cond b (Some x) p) ≡ option_or (cond b (Some x) o) p
shadows true x o p none = rw (none refl) refl
shadows false x o p none = refl

or_none : {X : Type 0} (o : Option X) → option_or o None ≡ o
or_none None = refl
or_none (Some x) = refl

module _ {X : Type 0} (key : X → List ℕ) where
  -- what is not found at a key is not found at the same key
  none_at : (j k : List ℕ) (xs : List X) → bytes_eq j k ≡ true → find_by key k xs ≡ None → find_by key j xs ≡ None
  none_at j k xs same none = subst (λ (t : List ℕ). find_by key t xs ≡ None) (sym ((bytes_eq-Decides j k).0 same)) none

  pub distinct-in_order : (xs : List X) → InOrder key xs → Distinct key xs
  distinct-in_order [] h = tt
  distinct-in_order (x ∷ xs) h = (find_above key (key x) xs h.0, distinct-in_order xs h.1)

  pub distinct-sorted : (xs : List X) → Distinct key (sorted_by key xs)
  distinct-sorted xs = distinct-in_order (sorted_by key xs) (in_order-sorted key xs)

  -- two lists in order in which every key finds the same are equal
  finds_first : (x : X) (xs : List X) → find_by key (key x) (x ∷ xs) ≡ Some x
  finds_first x xs = rw (equals (key x)) refl

  finds_below : (x y : X) (ys : List X) → Below (key x) (key y) → InOrder key (y ∷ ys) → find_by key (key x) (y ∷ ys) ≡ None
  finds_below x y ys low h = find_above key (key x) (y ∷ ys) (low, above_chain key (key x) (key y) ys low h.0)

  later : (x : X) (xs ys : List X) → Above key (key x) xs → Above key (key x) ys → ((k : List ℕ) → find_by key k (x ∷ xs) ≡ find_by key k (x ∷ ys)) → (k : List ℕ) → find_by key k xs ≡ find_by key k ys
  later x xs ys all also same k =
      elim (bytes_eq k (key x)) as (λ b. bytes_eq k (key x) ≡ b → cond b (Some x) (find_by key k xs) ≡ cond b (Some x) (find_by key k ys) → find_by key k xs ≡ find_by key k ys) [
        | true ↦ λ e f. none_at k (key x) xs e (find_above key (key x) xs all) ∙ sym (none_at k (key x) ys e (find_above key (key x) ys also))
        | false ↦ λ e f. f
      ] refl (same k)

  pub in_order-same : (xs ys : List X) → InOrder key xs → InOrder key ys → ((k : List ℕ) → find_by key k xs ≡ find_by key k ys) → xs ≡ ys
  in_order-same [] [] h g same = refl
  in_order-same [] (y ∷ ys) h g same = absurd (none-some y (same (key y) ∙ finds_first y ys))
  in_order-same (x ∷ xs) [] h g same = absurd (none-some x (sym (same (key x)) ∙ finds_first x xs))
  in_order-same (x ∷ xs) (y ∷ ys) h g same =
      elim (slice_cmp nat_cmp (key x) (key y)) as (λ o. slice_cmp nat_cmp (key x) (key y) ≡ o → x ∷ xs ≡ y ∷ ys) [
        | Less ↦ λ e. absurd (none-some x (sym (finds_below x y ys e g) ∙ sym (same (key x)) ∙ finds_first x xs))
        | Equal ↦ λ e. both (in_order-same xs ys h.1 g.1) (same_Some x y (sym (finds_first x xs) ∙ same (key x) ∙ subst (λ (k : List ℕ). find_by key k (y ∷ ys) ≡ Some y) (sym (same_from (key x) (key y) e)) (finds_first y ys)))
        | Greater ↦ λ e. absurd (none-some y (sym (finds_below y x xs (below_is (key x) (key y) e) h) ∙ same (key y) ∙ finds_first y ys))
      ] refl
    where
      both : (((k : List ℕ) → find_by key k xs ≡ find_by key k ys) → xs ≡ ys) → x ≡ y → x ∷ xs ≡ y ∷ ys
      both rest is =
          let all : Above key (key x) ys = subst (λ (z : X). Above key (key z) ys) (sym is) g.0 in
          let alike : (k : List ℕ) → find_by key k (x ∷ xs) ≡ find_by key k (x ∷ ys) = subst (λ (z : X). (k : List ℕ) → find_by key k (x ∷ xs) ≡ find_by key k (z ∷ ys)) (sym is) same in
          (λ i. is i ∷ rest (later x xs ys h.0 all alike) i)

  -- what is found after items are put one by one: the later of two with one key, so with distinct keys the only one
  found_after : (k : List ℕ) (xs sorted : List X) → Distinct key xs → find_by key k (fold (λ s x. put_by key x s) sorted xs) ≡ option_or (find_by key k xs) (find_by key k sorted)
  found_after k [] sorted h = refl
  found_after k (x ∷ xs) sorted h =
      found_after k xs (put_by key x sorted) h.1
      ∙ ap (option_or (find_by key k xs)) (find_put key k x sorted)
      ∙ shadows (bytes_eq k (key x)) x (find_by key k xs) (find_by key k sorted) (λ e. none_at k (key x) xs e h.0)

  pub find-sorted : (k : List ℕ) (xs : List X) → Distinct key xs → find_by key k (sorted_by key xs) ≡ find_by key k xs
  find-sorted k xs h = found_after k xs [] h ∙ or_none (find_by key k xs)

  -- items that are in order stay as they are
  pub sorted-in_order : (xs : List X) → InOrder key xs → sorted_by key xs ≡ xs
  sorted-in_order xs h = in_order-same (sorted_by key xs) xs (in_order-sorted key xs) h (λ k. find-sorted k xs (distinct-in_order xs h))

  pub sorted-sorted : (xs : List X) → sorted_by key (sorted_by key xs) ≡ sorted_by key xs
  sorted-sorted xs = sorted-in_order (sorted_by key xs) (in_order-sorted key xs)

  -- one more item at the end
  pub sorted-push : (x : X) (xs : List X) → sorted_by key (xs ++ x ∷ []) ≡ put_by key x (sorted_by key xs)
  sorted-push x xs = fold_push _ _ xs x

  -- an item whose key is not found goes between the others
  pub IsPermutation-put : (x : X) (ys : List X) → find_by key (key x) ys ≡ None → IsPermutation (x ∷ ys) (put_by key x ys)
  IsPermutation-put x [] none = IsPermutation-refl (x ∷ [])
  IsPermutation-put x (y ∷ ys) none =
      elim (slice_cmp nat_cmp (key x) (key y)) as (λ o. slice_cmp nat_cmp (key x) (key y) ≡ o → IsPermutation (x ∷ y ∷ ys) (match_ordering o (x ∷ y ∷ ys) (x ∷ ys) (y ∷ put_by key x ys))) [
        | Less ↦ λ e. IsPermutation-refl (x ∷ y ∷ ys)
        | Equal ↦ λ e. absurd (none-some y (sym none ∙ subst (λ (k : List ℕ). find_by key k (y ∷ ys) ≡ Some y) (sym (same_from (key x) (key y) e)) (finds_first y ys)))
        | Greater ↦ λ e. IsPermutation-trans (x ∷ y ∷ ys) (y ∷ x ∷ ys) (y ∷ put_by key x ys) (IsPermutation-sym (y ∷ x ∷ ys) (x ∷ y ∷ ys) (IsPermutation-middle (y ∷ []) x ys)) (IsPermutation-cons y (x ∷ ys) (put_by key x ys) (IsPermutation-put x ys (not_found_later none)))
      ] refl
    where
      not_found_later : find_by key (key x) (y ∷ ys) ≡ None → find_by key (key x) ys ≡ None
      not_found_later h =
          elim (bytes_eq (key x) (key y)) as (λ b. cond b (Some y) (find_by key (key x) ys) ≡ None → find_by key (key x) ys ≡ None) [
            | true ↦ λ e. absurd (none-some y (sym e))
            | false ↦ λ e. e
          ] h

  -- the items' keys are not found
  abbrev AreNew : List X → List X → Type 0
  AreNew xs sorted = AllByRecursion (λ x. find_by key (key x) sorted ≡ None) xs

  new_after : (x : X) (xs sorted : List X) → AllByRecursion (λ y. bytes_eq (key x) (key y) ≡ false) xs → AreNew xs sorted → AreNew xs (put_by key x sorted)
  new_after x [] sorted apart new = tt
  new_after x (y ∷ ys) sorted apart new = (find_put key (key y) x sorted ∙ rw (not_same (key x) (key y) apart.0) new.0, new_after x ys sorted apart.1 new.1)

  new_to_none : (xs : List X) → AreNew xs []
  new_to_none [] = tt
  new_to_none (x ∷ xs) = (refl, new_to_none xs)

  permuted_after : (xs sorted : List X) → Distinct key xs → AreNew xs sorted → IsPermutation (xs ++ sorted) (fold (λ s x. put_by key x s) sorted xs)
  permuted_after [] sorted h new = IsPermutation-refl sorted
  permuted_after (x ∷ xs) sorted h new =
      IsPermutation-trans (x ∷ (xs ++ sorted)) (xs ++ x ∷ sorted) (fold (λ s x. put_by key x s) (put_by key x sorted) xs)
      (IsPermutation-sym (xs ++ x ∷ sorted) (x ∷ (xs ++ sorted)) (IsPermutation-middle xs x sorted))
      (IsPermutation-trans (xs ++ x ∷ sorted) (xs ++ put_by key x sorted) (fold (λ s x. put_by key x s) (put_by key x sorted) xs)
      (IsPermutation-append_right xs (x ∷ sorted) (put_by key x sorted) (IsPermutation-put x sorted new.0))
      (permuted_after xs (put_by key x sorted) h.1 (new_after x xs sorted (others key (key x) xs h.0) new.1)))

  -- the same items, in another order
  pub IsPermutation-sorted : (xs : List X) → Distinct key xs → IsPermutation xs (sorted_by key xs)
  IsPermutation-sorted xs h = subst (λ (ys : List X). IsPermutation ys (sorted_by key xs)) (append-nil xs) (permuted_after xs [] h (new_to_none xs))

  pub list_any-sorted : (p : X → Bool) (xs : List X) → Distinct key xs → list_any p (sorted_by key xs) ≡ list_any p xs
  list_any-sorted p xs h = sym (list_any-IsPermutation p xs (sorted_by key xs) (IsPermutation-sorted xs h))

  -- what is left of items by a test of each
  none-filter : (p : X → Bool) (k : List ℕ) (xs : List X) → find_by key k xs ≡ None → find_by key k (filter p xs) ≡ None
  none-filter p k [] none = refl
  none-filter p k (x ∷ xs) none =
      elim (bytes_eq k (key x)) as (λ b. bytes_eq k (key x) ≡ b → cond b (Some x) (find_by key k xs) ≡ None → find_by key k (filter p (x ∷ xs)) ≡ None) [
        | true ↦ λ e f. absurd (none-some x (sym f))
        | false ↦ λ e f. elim (p x) as (λ c. find_by key k (cond c (x ∷ filter p xs) (filter p xs)) ≡ None) [ true ↦ rw e (none-filter p k xs f) | false ↦ none-filter p k xs f ]
      ] refl none

  pub distinct-filter : (p : X → Bool) (xs : List X) → Distinct key xs → Distinct key (filter p xs)
  distinct-filter p [] h = tt
  distinct-filter p (x ∷ xs) h = elim (p x) as (λ b. Distinct key (cond b (x ∷ filter p xs) (filter p xs))) [ true ↦ (none-filter p (key x) xs h.0, distinct-filter p xs h.1) | false ↦ distinct-filter p xs h.1 ]

  pub find-filter : (p : X → Bool) (k : List ℕ) (xs : List X) → Distinct key xs → find_by key k (filter p xs) ≡ option_filter p (find_by key k xs)
  find-filter p k [] h = refl
  find-filter p k (x ∷ xs) h =
      elim (p x) as (λ b. p x ≡ b → find_by key k (cond b (x ∷ filter p xs) (filter p xs)) ≡ option_filter p (find_by key k (x ∷ xs))) [
        | true ↦ λ e. elim (bytes_eq k (key x)) as (λ b. cond b (Some x) (find_by key k (filter p xs)) ≡ option_filter p (cond b (Some x) (find_by key k xs))) [ true ↦ rw e refl | false ↦ find-filter p k xs h.1 ]
        | false ↦ λ e. elim (bytes_eq k (key x)) as (λ b. bytes_eq k (key x) ≡ b → find_by key k (filter p xs) ≡ option_filter p (cond b (Some x) (find_by key k xs))) [ true ↦ λ f. rw e (none-filter p k xs (none_at k (key x) xs f h.0)) | false ↦ λ f. find-filter p k xs h.1 ] refl
      ] refl

  pub filter-sorted : (p : X → Bool) (xs : List X) → Distinct key xs → filter p (sorted_by key xs) ≡ sorted_by key (filter p xs)
  filter-sorted p xs h =
      in_order-same (filter p (sorted_by key xs)) (sorted_by key (filter p xs)) (in_order-filter key p (sorted_by key xs) (in_order-sorted key xs)) (in_order-sorted key (filter p xs))
      (λ k. find-filter p k (sorted_by key xs) (distinct-sorted xs) ∙ ap (option_filter p) (find-sorted k xs h) ∙ sym (find-filter p k xs h) ∙ sym (find-sorted k (filter p xs) (distinct-filter p xs h)))

  -- items that change and keep their keys
  put-changed : (f : X → X) (x : X) (ys : List X) → ((x : X) → key (f x) ≡ key x) → map f (put_by key x ys) ≡ put_by key (f x) (map f ys)
  put-changed f x [] keeps = refl
  put-changed f x (y ∷ ys) keeps =
      rw (keeps x, keeps y) (elim (slice_cmp nat_cmp (key x) (key y)) as (λ o. map f (match_ordering o (x ∷ y ∷ ys) (x ∷ ys) (y ∷ put_by key x ys)) ≡ match_ordering o (f x ∷ f y ∷ map f ys) (f x ∷ map f ys) (f y ∷ put_by key (f x) (map f ys))) [
        | Less ↦ refl
        | Equal ↦ refl
        | Greater ↦ ap (λ (t : List X). f y ∷ t) (put-changed f x ys keeps)
      ])

  changed_after : (f : X → X) (xs sorted : List X) → ((x : X) → key (f x) ≡ key x) → map f (fold (λ s x. put_by key x s) sorted xs) ≡ fold (λ s x. put_by key x s) (map f sorted) (map f xs)
  changed_after f [] sorted keeps = refl
  changed_after f (x ∷ xs) sorted keeps = changed_after f xs (put_by key x sorted) keeps ∙ ap (λ (s : List X). fold (λ s x. put_by key x s) s (map f xs)) (put-changed f x sorted keeps)

  pub map-sorted : (f : X → X) (xs : List X) → ((x : X) → key (f x) ≡ key x) → map f (sorted_by key xs) ≡ sorted_by key (map f xs)
  map-sorted f xs keeps = changed_after f xs [] keeps

  pub find-changed : (f : X → X) (k : List ℕ) (xs : List X) → ((x : X) → key (f x) ≡ key x) → find_by key k (map f xs) ≡ option_map f (find_by key k xs)
  find-changed f k [] keeps = refl
  find-changed f k (x ∷ xs) keeps = rw (keeps x) (elim (bytes_eq k (key x)) as (λ b. cond b (Some (f x)) (find_by key k (map f xs)) ≡ option_map f (cond b (Some x) (find_by key k xs))) [ true ↦ refl | false ↦ find-changed f k xs keeps ])

  pub distinct-map : (f : X → X) (xs : List X) → ((x : X) → key (f x) ≡ key x) → Distinct key xs → Distinct key (map f xs)
  distinct-map f [] keeps h = tt
  distinct-map f (x ∷ xs) keeps h = (find-changed f (key (f x)) xs keeps ∙ ap (λ (k : List ℕ). option_map f (find_by key k xs)) (keeps x) ∙ ap (option_map f) h.0, distinct-map f xs keeps h.1)

  above-map : (f : X → X) (k : List ℕ) (xs : List X) → ((x : X) → key (f x) ≡ key x) → Above key k xs → Above key k (map f xs)
  above-map f k [] keeps h = tt
  above-map f k (x ∷ xs) keeps h = (subst (Below k) (sym (keeps x)) h.0, above-map f k xs keeps h.1)

  pub in_order-map : (f : X → X) (xs : List X) → ((x : X) → key (f x) ≡ key x) → InOrder key xs → InOrder key (map f xs)
  in_order-map f [] keeps h = tt
  in_order-map f (x ∷ xs) keeps h = (subst (λ (k : List ℕ). Above key k (map f xs)) (sym (keeps x)) (above-map f (key x) xs keeps h.0), in_order-map f xs keeps h.1)

  -- an item whose key is not found, at the end
  pub distinct-push : (x : X) (xs : List X) → find_by key (key x) xs ≡ None → Distinct key xs → Distinct key (xs ++ x ∷ [])
  distinct-push x [] none h = (refl, tt)
  distinct-push x (y ∷ ys) none h =
      let apart = others key (key x) (y ∷ ys) none in
      (find-push_other key (key y) x ys (not_same (key x) (key y) apart.0) ∙ h.0, distinct-push x ys (rw apart.0 at none) h.1)

-- what is found among items that are seen through a function with the same keys
module _ {X Y : Type 0} (key : X → List ℕ) (view : Y → X) where
  pub find-map : (k : List ℕ) (ys : List Y) → option_map view (find_by (λ y. key (view y)) k ys) ≡ find_by key k (map view ys)
  find-map k [] = refl
  find-map k (y ∷ ys) = elim (bytes_eq k (key (view y))) as (λ b. option_map view (cond b (Some y) (find_by (λ y. key (view y)) k ys)) ≡ cond b (Some (view y)) (find_by key k (map view ys))) [ true ↦ refl | false ↦ find-map k ys ]

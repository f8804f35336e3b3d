-- Laws of lists of items in the order of their keys.
use Rattle.std.proofs.Common.{append-nil, ◌||◌, map, ◌≡◌, ℕ, zero, suc, ◌+◌, ◌<◌, ◌≤◌, Bool, true, false, cond, List, [], ◌∷◌, ◌++◌, length, get_or, set, take, drop, Option, Some, None, refl, sym, ap, ◌∙◌, subst, arith, not, Result, Ok, Err}
use Rattle.std.specs.declared.cmp.Ordering.TheVariants.{Less, Equal, Greater}
use Rattle.std.specs.Ordering.{nat_cmp, match_ordering, is_eq, ordering_reverse, ordering_index}
use Rattle.std.specs.Cmp.Lexicographic.{slice_cmp}
use Rattle.std.specs.Str.{bytes_eq}
use Rattle.std.specs.List.{filter, filter_map, cons_option, fold, list_any, AllByRecursion}
use Rattle.std.specs.Option.{is_some, option_map_or}
use Rattle.std.specs.List.Sorted.{IsBinarySearchResult, IsSearchInRange}
use Rattle.std.specs.FinMap.{slice_cmp-IsAntisymmetric, nat_cmp-IsAntisymmetric}
use Rattle.std.proofs.lemmas.Cmp.{nat_list_cmp_total, tied_itself}
use Rattle.std.proofs.lemmas.Map.Text.{is_eq-slice_cmp}
use Rattle.std.proofs.lemmas.Slice.Eq.{bytes_eq-Decides}
use Rattle.std.proofs.lemmas.List.{take_more}
use Rattle.std.proofs.lemmas.List.Elements.{filter_map-append}
use Rattle.std.proofs.lemmas.List.Sums.{fold_push}
use Rattle.rv_base.specs.Sorted.{find_by, without, put_by, InOrder, IsPositionOf, sorted_by, Below}

above_is : (a b : List ℕ) → Below a b → slice_cmp nat_cmp b a ≡ Greater
above_is a b h = nat_list_cmp_total.antisymm b a ∙ ap ordering_reverse h

pub below_is : (a b : List ℕ) → slice_cmp nat_cmp a b ≡ Greater → Below b a
below_is a b h = nat_list_cmp_total.antisymm b a ∙ ap ordering_reverse h

same_is : (a : List ℕ) → slice_cmp nat_cmp a a ≡ Equal
same_is a = tied_itself nat_list_cmp_total a

pub same_from : (a b : List ℕ) → slice_cmp nat_cmp a b ≡ Equal → a ≡ b
same_from a b h = slice_cmp-IsAntisymmetric nat_cmp-IsAntisymmetric a b h

pub differs : (a b : List ℕ) → Below a b → bytes_eq a b ≡ false
differs a b h = sym (is_eq-slice_cmp a b) ∙ ap is_eq h

pub differs_back : (a b : List ℕ) → Below a b → bytes_eq b a ≡ false
differs_back a b h = sym (is_eq-slice_cmp b a) ∙ ap is_eq (above_is a b h)

pub equals : (a : List ℕ) → bytes_eq a a ≡ true
equals a = sym (is_eq-slice_cmp a a) ∙ ap is_eq (same_is a)

module _ {X : Type 0} (key : X → List ℕ) where
  -- each key is above k
  abbrev pub Above : List ℕ → List X → Type 0
  Above k xs = AllByRecursion (λ y. Below k (key y)) xs

  pub above_chain : (a b : List ℕ) (xs : List X) → Below a b → Above b xs → Above a xs
  above_chain a b [] h all = tt
  above_chain a b (x ∷ xs) h all = (nat_list_cmp_total.trans a b (key x) h all.0, above_chain a b xs h all.1)

  above_at : (k : List ℕ) (xs : List X) (j : ℕ) (d : X) → j < length xs → Above k xs → Below k (key (get_or xs j d))
  above_at k [] j d lt all = absurd (omega arith)
  above_at k (x ∷ xs) zero d lt all = all.0
  above_at k (x ∷ xs) (suc j) d lt all = above_at k xs j d (omega arith) all.1

  above_from : (k : List ℕ) (xs : List X) → ((j : ℕ) (d : X) → j < length xs → slice_cmp nat_cmp (key (get_or xs j d)) k ≡ Greater) → Above k xs
  above_from k [] each = tt
  above_from k (x ∷ xs) each = (below_is (key x) k (each 0 x (omega arith)), above_from k xs (λ j d lt. each (suc j) d (omega arith)))

  pub find_above : (k : List ℕ) (xs : List X) → Above k xs → find_by key k xs ≡ None
  find_above k [] all = refl
  find_above k (x ∷ xs) all = rw (differs k (key x) all.0) (find_above k xs all.1)

  pub without_above : (k : List ℕ) (xs : List X) → Above k xs → without key k xs ≡ xs
  without_above k [] all = refl
  without_above k (x ∷ xs) all = rw (differs k (key x) all.0) (ap (λ (t : List X). x ∷ t) (without_above k xs all.1))

  put_above : (x : X) (xs : List X) → Above (key x) xs → put_by key x xs ≡ x ∷ xs
  put_above x [] all = refl
  put_above x (y ∷ ys) all = rw all.0 refl

  -- what stands at the position i, which has the key k
  module _ (k : List ℕ) where
    pub find_found : (xs : List X) (i : ℕ) (d : X) → InOrder key xs → i < length xs → key (get_or xs i d) ≡ k → find_by key k xs ≡ Some (get_or xs i d)
    find_found [] i d sorted lt is = absurd (omega arith)
    find_found (x ∷ xs) zero d sorted lt is = rw (← is, equals (key x)) refl
    find_found (x ∷ xs) (suc i) d sorted lt is =
        let low : Below (key x) k = subst (λ (b : List ℕ). Below (key x) b) is (above_at (key x) xs i d (omega arith) sorted.0) in
        rw (differs_back (key x) k low) (find_found xs i d sorted.1 (omega arith) is)

    pub without_found : (xs : List X) (i : ℕ) (d : X) → InOrder key xs → i < length xs → key (get_or xs i d) ≡ k → without key k xs ≡ take i xs ++ drop (suc i) xs
    without_found [] i d sorted lt is = absurd (omega arith)
    without_found (x ∷ xs) zero d sorted lt is = subst (λ (t : List ℕ). without key t (x ∷ xs) ≡ xs) is (rw (equals (key x)) (without_above (key x) xs sorted.0))
    without_found (x ∷ xs) (suc i) d sorted lt is =
        let low : Below (key x) k = subst (λ (b : List ℕ). Below (key x) b) is (above_at (key x) xs i d (omega arith) sorted.0) in
        rw (differs_back (key x) k low) (ap (λ (t : List X). x ∷ t) (without_found xs i d sorted.1 (omega arith) is))

    pub find_gap : (xs : List X) (i : ℕ) → i ≤ length xs → ((j : ℕ) (d : X) → j < i → Below (key (get_or xs j d)) k) → ((j : ℕ) (d : X) → i ≤ j → j < length xs → slice_cmp nat_cmp (key (get_or xs j d)) k ≡ Greater) → find_by key k xs ≡ None
    find_gap xs zero le low high = find_above k xs (above_from k xs (λ j d lt. high j d (omega arith) lt))
    find_gap [] (suc i) le low high = refl
    find_gap (x ∷ xs) (suc i) le low high = rw (differs_back (key x) k (low 0 x (omega arith))) (find_gap xs i (omega arith) (λ j d lt. low (suc j) d (omega arith)) (λ j d ge lt. high (suc j) d (omega arith) (omega arith)))

    pub without_gap : (xs : List X) (i : ℕ) → i ≤ length xs → ((j : ℕ) (d : X) → j < i → Below (key (get_or xs j d)) k) → ((j : ℕ) (d : X) → i ≤ j → j < length xs → slice_cmp nat_cmp (key (get_or xs j d)) k ≡ Greater) → without key k xs ≡ xs
    without_gap xs zero le low high = without_above k xs (above_from k xs (λ j d lt. high j d (omega arith) lt))
    without_gap [] (suc i) le low high = refl
    without_gap (x ∷ xs) (suc i) le low high = rw (differs_back (key x) k (low 0 x (omega arith))) (ap (λ (t : List X). x ∷ t) (without_gap xs i (omega arith) (λ j d lt. low (suc j) d (omega arith)) (λ j d ge lt. high (suc j) d (omega arith) (omega arith))))

  pub put_found : (new : X) (xs : List X) (i : ℕ) (d : X) → InOrder key xs → i < length xs → key (get_or xs i d) ≡ key new → put_by key new xs ≡ set xs i new
  put_found new [] i d sorted lt is = absurd (omega arith)
  put_found new (x ∷ xs) zero d sorted lt is =
      let e : slice_cmp nat_cmp (key new) (key x) ≡ Equal = subst (λ (b : List ℕ). slice_cmp nat_cmp (key new) b ≡ Equal) (sym is) (same_is (key new)) in
      rw e refl
  put_found new (x ∷ xs) (suc i) d sorted lt is =
      let low : Below (key x) (key new) = subst (λ (b : List ℕ). Below (key x) b) is (above_at (key x) xs i d (omega arith) sorted.0) in
      rw (above_is (key x) (key new) low) (ap (λ (t : List X). x ∷ t) (put_found new xs i d sorted.1 (omega arith) is))

  pub put_gap : (new : X) (xs : List X) (i : ℕ) → i ≤ length xs → ((j : ℕ) (d : X) → j < i → Below (key (get_or xs j d)) (key new)) → ((j : ℕ) (d : X) → i ≤ j → j < length xs → slice_cmp nat_cmp (key (get_or xs j d)) (key new) ≡ Greater) → put_by key new xs ≡ take i xs ++ new ∷ drop i xs
  put_gap new xs zero le low high = put_above new xs (above_from (key new) xs (λ j d lt. high j d (omega arith) lt))
  put_gap new [] (suc i) le low high = absurd (omega arith)
  put_gap new (x ∷ xs) (suc i) le low high =
      rw (above_is (key x) (key new) (low 0 x (omega arith))) (ap (λ (t : List X). x ∷ t) (put_gap new xs i (omega arith) (λ j d lt. low (suc j) d (omega arith)) (λ j d ge lt. high (suc j) d (omega arith) (omega arith))))

  -- the order is kept
  above_put : (k : List ℕ) (new : X) (xs : List X) → Below k (key new) → Above k xs → Above k (put_by key new xs)
  above_put k new [] h all = (h, tt)
  above_put k new (y ∷ ys) h all =
      elim (slice_cmp nat_cmp (key new) (key y)) as (λ o. Above k (match_ordering o (new ∷ y ∷ ys) (new ∷ ys) (y ∷ put_by key new ys))) [
        | Less ↦ (h, all)
        | Equal ↦ (h, all.1)
        | Greater ↦ (all.0, above_put k new ys h all.1)
      ]

  pub in_order-put : (new : X) (xs : List X) → InOrder key xs → InOrder key (put_by key new xs)
  in_order-put new [] sorted = (tt, tt)
  in_order-put new (y ∷ ys) sorted =
      elim (slice_cmp nat_cmp (key new) (key y)) as (λ o. slice_cmp nat_cmp (key new) (key y) ≡ o → InOrder key (match_ordering o (new ∷ y ∷ ys) (new ∷ ys) (y ∷ put_by key new ys))) [
        | Less ↦ λ e. ((e, above_chain (key new) (key y) ys e sorted.0), sorted)
        | Equal ↦ λ e. (subst (λ (b : List ℕ). Above b ys) (sym (same_from (key new) (key y) e)) sorted.0, sorted.1)
        | Greater ↦ λ e. (above_put (key y) new ys (below_is (key new) (key y) e) sorted.0, in_order-put new ys sorted.1)
      ] refl

  above_without : (a k : List ℕ) (xs : List X) → Above a xs → Above a (without key k xs)
  above_without a k [] all = tt
  above_without a k (x ∷ xs) all = elim (bytes_eq k (key x)) as (λ b. Above a (cond (not b) (x ∷ without key k xs) (without key k xs))) [ true ↦ above_without a k xs all.1 | false ↦ (all.0, above_without a k xs all.1) ]

  pub in_order-without : (k : List ℕ) (xs : List X) → InOrder key xs → InOrder key (without key k xs)
  in_order-without k [] sorted = tt
  in_order-without k (x ∷ xs) sorted = elim (bytes_eq k (key x)) as (λ b. InOrder key (cond (not b) (x ∷ without key k xs) (without key k xs))) [ true ↦ in_order-without k xs sorted.1 | false ↦ (above_without (key x) k xs sorted.0, in_order-without k xs sorted.1) ]

  -- what a binary search is told: the answers rise
  rises : (k : List ℕ) (xs : List X) → InOrder key xs → (i j : ℕ) (d : X) → i ≤ j → j < length xs → ordering_index (slice_cmp nat_cmp (key (get_or xs i d)) k) ≤ ordering_index (slice_cmp nat_cmp (key (get_or xs j d)) k)
  rises k [] sorted i j d le lt = absurd (omega arith)
  rises k (x ∷ xs) sorted zero zero d le lt = omega arith
  rises k (x ∷ xs) sorted zero (suc j) d le lt = below_rises (key x) (key (get_or xs j d)) k (above_at (key x) xs j d (omega arith) sorted.0)
    where
      below_rises : (a b k : List ℕ) → Below a b → ordering_index (slice_cmp nat_cmp a k) ≤ ordering_index (slice_cmp nat_cmp b k)
      below_rises a b k h =
          elim (slice_cmp nat_cmp b k) as (λ o. slice_cmp nat_cmp b k ≡ o → ordering_index (slice_cmp nat_cmp a k) ≤ ordering_index o) [
            | Less ↦ λ e. rw (nat_list_cmp_total.trans a b k h e) (omega arith)
            | Equal ↦ λ e. rw (subst (λ (t : List ℕ). Below a t) (same_from b k e) h) (omega arith)
            | Greater ↦ λ e. elim (slice_cmp nat_cmp a k) as (λ o. ordering_index o ≤ 2) [ Less ↦ omega arith | Equal ↦ omega arith | Greater ↦ omega arith ]
          ] refl
  rises k (x ∷ xs) sorted (suc i) zero d le lt = absurd (omega arith)
  rises k (x ∷ xs) sorted (suc i) (suc j) d le lt = rises k xs sorted.1 i j d (omega arith) (omega arith)

  pub settles : (k : List ℕ) (xs : List X) (r : Result ℕ ℕ) → InOrder key xs → IsSearchInRange r (length xs) → IsBinarySearchResult (λ y. slice_cmp nat_cmp (key y) k) xs r → IsPositionOf key k xs r
  settles k xs (Ok i) sorted lt at =
      let gone = gone_at xs refl in
      record {
        in_range = lt;
        found = λ d. find_found k xs i d sorted lt (same_from _ _ (at d));
        removed = gone;
        removed_order = subst (λ (ys : List X). InOrder key ys) gone (in_order-without k xs sorted);
        written = λ new e. put_at new e;
        written_order = λ new e. subst (λ (ys : List X). InOrder key ys) (put_at new e) (in_order-put new xs sorted);
      }
    where
      gone_at : (ys : List X) → ys ≡ xs → without key k xs ≡ take i xs ++ drop (suc i) xs
      gone_at [] e = absurd (omega (arith, ap length e))
      gone_at (d ∷ ys) e = without_found k xs i d sorted lt (same_from _ _ (at d))

      put_at : (new : X) → key new ≡ k → put_by key new xs ≡ set xs i new
      put_at new is = put_found new xs i new sorted lt (same_from _ _ (at new) ∙ sym is)
  settles k xs (Err i) sorted le parted =
      let parts = parted (rises k xs sorted) in
      record {
        in_range = le;
        absent = find_gap k xs i le (λ j d lt. parts.0 j d (omega arith) lt) parts.1;
        unmoved = without_gap k xs i le (λ j d lt. parts.0 j d (omega arith) lt) parts.1;
        inserted = λ new e. put_at new e;
        inserted_order = λ new e. subst (λ (ys : List X). InOrder key ys) (put_at new e) (in_order-put new xs sorted);
      }
    where
      put_at : (new : X) → key new ≡ k → put_by key new xs ≡ take i xs ++ new ∷ drop i xs
      put_at new is =
          let parts = parted (rises k xs sorted) in
          put_gap new xs i le (λ j d lt. subst (λ (b : List ℕ). Below (key (get_or xs j d)) b) (sym is) (parts.0 j d (omega arith) lt)) (λ j d ge lt. subst (λ (b : List ℕ). slice_cmp nat_cmp (key (get_or xs j d)) b ≡ Greater) (sym is) (parts.1 j d ge lt))

-- what is found after a change, for callers
shadowed : {A : Type 0} (b : Bool) (x y z : A) → cond b x z ≡ cond b x (cond b y z)
shadowed true x y z = refl
shadowed false x y z = refl

swapped : {A : Type 0} (a b : Bool) (x y z : A) → (a ≡ true → b ≡ true → ⊥) → cond a x (cond b y z) ≡ cond b y (cond a x z)
swapped true true x y z apart = absurd (apart refl refl)
swapped true false x y z apart = refl
swapped false b x y z apart = refl

apart_by : (q a b : List ℕ) → slice_cmp nat_cmp b a ≡ Greater → bytes_eq q a ≡ true → bytes_eq q b ≡ true → ⊥
apart_by q a b e h g =
    let p : q ≡ a = (bytes_eq-Decides q a).0 h in
    let r : q ≡ b = (bytes_eq-Decides q b).0 g in
    let same : slice_cmp nat_cmp b a ≡ Equal = subst (λ (t : List ℕ). slice_cmp nat_cmp b t ≡ Equal) (sym r ∙ p) (same_is b) in
    let both : Equal ≡ Greater = sym same ∙ e in cc

gone : {X : Type 0} (a b : Bool) (y : X) (z : Option X) → (b ≡ true → a ≡ true) → cond a None z ≡ cond a None (cond b (Some y) z)
gone true b y z h = refl
gone false true y z h = absurd (let e : false ≡ true = h refl in cc)
gone false false y z h = refl

kept : {X : Type 0} (a b : Bool) (y : X) (z : Option X) → (b ≡ true → a ≡ false) → cond b (Some y) (cond a None z) ≡ cond a None (cond b (Some y) z)
kept true true y z h = absurd (let e : true ≡ false = h refl in cc)
kept true false y z h = refl
kept false b y z h = refl

module _ {X : Type 0} (key : X → List ℕ) where
  pub find_put : (q : List ℕ) (new : X) (xs : List X) → find_by key q (put_by key new xs) ≡ cond (bytes_eq q (key new)) (Some new) (find_by key q xs)
  find_put q new [] = refl
  find_put q new (y ∷ ys) =
      elim (slice_cmp nat_cmp (key new) (key y)) as (λ o. slice_cmp nat_cmp (key new) (key y) ≡ o → find_by key q (match_ordering o (new ∷ y ∷ ys) (new ∷ ys) (y ∷ put_by key new ys)) ≡ cond (bytes_eq q (key new)) (Some new) (find_by key q (y ∷ ys))) [
        | Less ↦ λ e. refl
        | Equal ↦ λ e. subst (λ (k : List ℕ). cond (bytes_eq q (key new)) (Some new) (find_by key q ys) ≡ cond (bytes_eq q (key new)) (Some new) (cond (bytes_eq q k) (Some y) (find_by key q ys))) (same_from (key new) (key y) e) (shadowed (bytes_eq q (key new)) (Some new) (Some y) (find_by key q ys))
        | Greater ↦ λ e. ap (cond (bytes_eq q (key y)) (Some y)) (find_put q new ys) ∙ swapped (bytes_eq q (key y)) (bytes_eq q (key new)) (Some y) (Some new) (find_by key q ys) (apart_by q (key y) (key new) e)
      ] refl

  pub find_without : (q k : List ℕ) (xs : List X) → find_by key q (without key k xs) ≡ cond (bytes_eq k q) None (find_by key q xs)
  find_without q k [] = elim (bytes_eq k q) as (λ b. ◌≡◌ {A = Option X} None (cond b None None)) [ true ↦ refl | false ↦ refl ]
  find_without q k (x ∷ xs) =
      elim (bytes_eq k (key x)) as (λ b. bytes_eq k (key x) ≡ b → find_by key q (cond (not b) (x ∷ without key k xs) (without key k xs)) ≡ cond (bytes_eq k q) None (cond (bytes_eq q (key x)) (Some x) (find_by key q xs))) [
        | true ↦ λ e. find_without q k xs ∙ gone (bytes_eq k q) (bytes_eq q (key x)) x (find_by key q xs) (λ h. subst (λ (t : List ℕ). bytes_eq k t ≡ true) (sym ((bytes_eq-Decides q (key x)).0 h)) e)
        | false ↦ λ e. ap (cond (bytes_eq q (key x)) (Some x)) (find_without q k xs) ∙ kept (bytes_eq k q) (bytes_eq q (key x)) x (find_by key q xs) (λ h. subst (λ (t : List ℕ). bytes_eq k t ≡ false) (sym ((bytes_eq-Decides q (key x)).0 h)) e)
      ] refl

-- the items in order after one more
module _ {X : Type 0} (key : X → List ℕ) where
  one_more : (o : Option X) (ys : List X) → sorted_by key (ys ++ cons_option o []) ≡ option_map_or (λ y. put_by key y (sorted_by key ys)) o (sorted_by key ys)
  one_more None ys = ap (sorted_by key) (append-nil ys)
  one_more (Some y) ys = fold_push _ _ ys y

  pub sorted_more : {A : Type 0} (h : A → Option X) (xs : List A) (i : ℕ) (x : A) → i < length xs → x ≡ get_or xs i x
      → sorted_by key (filter_map h (take (i + 1) xs)) ≡ option_map_or (λ y. put_by key y (sorted_by key (filter_map h (take i xs)))) (h x) (sorted_by key (filter_map h (take i xs)))
  sorted_more h xs i x lt is =
      ap (λ t. sorted_by key (filter_map h t)) (take_more xs i x lt ∙ ap (λ y. take i xs ++ y ∷ []) (sym is)) ∙ ap (sorted_by key) (filter_map-append h (take i xs) (x ∷ [])) ∙ one_more (h x) (filter_map h (take i xs))

  pub in_order-sorted : (xs : List X) → InOrder key (sorted_by key xs)
  in_order-sorted xs = each xs [] tt
    where
      each : (ys sorted : List X) → InOrder key sorted → InOrder key (fold (λ s x. put_by key x s) sorted ys)
      each [] sorted h = h
      each (y ∷ ys) sorted h = each ys (put_by key y sorted) (in_order-put key y sorted h)

  above_filter : (p : X → Bool) (k : List ℕ) (xs : List X) → Above key k xs → Above key k (filter p xs)
  above_filter p k [] h = tt
  above_filter p k (x ∷ xs) h = elim (p x) as (λ b. Above key k (cond b (x ∷ filter p xs) (filter p xs))) [ true ↦ (h.0, above_filter p k xs h.1) | false ↦ above_filter p k xs h.1 ]

  pub in_order-filter : (p : X → Bool) (xs : List X) → InOrder key xs → InOrder key (filter p xs)
  in_order-filter p [] h = tt
  in_order-filter p (x ∷ xs) h =
      elim (p x) as (λ b. InOrder key (cond b (x ∷ filter p xs) (filter p xs))) [ true ↦ (above_filter p (key x) xs h.0, in_order-filter p xs h.1) | false ↦ in_order-filter p xs h.1 ]

pub not_same : (a b : List ℕ) → bytes_eq a b ≡ false → bytes_eq b a ≡ false
not_same a b h =
    elim (bytes_eq b a) as (λ t. bytes_eq b a ≡ t → t ≡ false) [
      | true ↦ λ e. absurd (let p : b ≡ a = (bytes_eq-Decides b a).0 e in let same : bytes_eq a b ≡ true = subst (λ (t : List ℕ). bytes_eq a t ≡ true) (sym p) (equals a) in let both : true ≡ false = sym same ∙ h in cc)
      | false ↦ λ e. refl
    ] refl

-- an item with the key is there exactly where one is found
module _ {X : Type 0} (key : X → List ℕ) where
  pub found-any : (k : List ℕ) (xs : List X) → is_some (find_by key k xs) ≡ list_any (λ x. bytes_eq k (key x)) xs
  found-any k [] = refl
  found-any k (x ∷ xs) = elim (bytes_eq k (key x)) as (λ b. is_some (cond b (Some x) (find_by key k xs)) ≡ (b || list_any (λ x. bytes_eq k (key x)) xs)) [ true ↦ refl | false ↦ found-any k xs ]

  either : (b c : Bool) (x : X) (o : Option X) → (c || is_some (cond b (Some x) o)) ≡ ((b || c) || is_some o)
  either true true x o = refl
  either true false x o = refl
  either false c x o = refl

  found_after : (k : List ℕ) (xs sorted : List X) → is_some (find_by key k (fold (λ s x. put_by key x s) sorted xs)) ≡ (list_any (λ x. bytes_eq k (key x)) xs || is_some (find_by key k sorted))
  found_after k [] sorted = refl
  found_after k (x ∷ xs) sorted =
      found_after k xs (put_by key x sorted) ∙ ap (λ (o : Option X). list_any (λ x. bytes_eq k (key x)) xs || is_some o) (find_put key k x sorted) ∙ either (bytes_eq k (key x)) (list_any (λ x. bytes_eq k (key x)) xs) x (find_by key k sorted)

  or_false : (b : Bool) → (b || false) ≡ b
  or_false true = refl
  or_false false = refl

  pub found-sorted : (k : List ℕ) (xs : List X) → is_some (find_by key k (sorted_by key xs)) ≡ list_any (λ x. bytes_eq k (key x)) xs
  found-sorted k xs = found_after k xs [] ∙ or_false _

  pub none_found : (k : List ℕ) (xs : List X) → is_some (find_by key k xs) ≡ false → find_by key k xs ≡ None
  none_found k xs h = elim (find_by key k xs) as (λ o. is_some o ≡ false → o ≡ None) [ None ↦ λ e. refl | Some x ↦ λ e. absurd (cc) ] h

  -- one more item at the end
  pub find-push_other : (k : List ℕ) (x : X) (xs : List X) → bytes_eq k (key x) ≡ false → find_by key k (xs ++ x ∷ []) ≡ find_by key k xs
  find-push_other k x [] h = rw h refl
  find-push_other k x (y ∷ ys) h = ap (λ (o : Option X). cond (bytes_eq k (key y)) (Some y) o) (find-push_other k x ys h)

  -- no item has a key that is not found
  pub others : (k : List ℕ) (xs : List X) → find_by key k xs ≡ None → AllByRecursion (λ x. bytes_eq k (key x) ≡ false) xs
  others k [] h = tt
  others k (x ∷ xs) h =
      elim (bytes_eq k (key x)) as (λ b. bytes_eq k (key x) ≡ b → cond b (Some x) (find_by key k xs) ≡ None → AllByRecursion (λ x. bytes_eq k (key x) ≡ false) (x ∷ xs)) [
        | true ↦ λ e f. absurd (cc)
        | false ↦ λ e f. (e, others k xs f)
      ] refl h

  -- what holds of each item and of a new one holds of each after it is put
  pub all-put : (P : X → Type 0) (x : X) (xs : List X) → P x → AllByRecursion P xs → AllByRecursion P (put_by key x xs)
  all-put P x [] p all = (p, tt)
  all-put P x (y ∷ ys) p all =
      elim (slice_cmp nat_cmp (key x) (key y)) as (λ o. AllByRecursion P (match_ordering o (x ∷ y ∷ ys) (x ∷ ys) (y ∷ put_by key x ys))) [
        | Less ↦ (p, all)
        | Equal ↦ (p, all.1)
        | Greater ↦ (all.0, all-put P x ys p all.1)
      ]

-- items that are seen through a function with the same keys
module _ {X Y : Type 0} (key : X → List ℕ) (view : Y → X) where
  pub map-put : (y : Y) (ys : List Y) → map view (put_by (λ y. key (view y)) y ys) ≡ put_by key (view y) (map view ys)
  map-put y [] = refl
  map-put y (z ∷ zs) =
      elim (slice_cmp nat_cmp (key (view y)) (key (view z))) as (λ o. map view (match_ordering o (y ∷ z ∷ zs) (y ∷ zs) (z ∷ put_by (λ y. key (view y)) y zs)) ≡ match_ordering o (view y ∷ view z ∷ map view zs) (view y ∷ map view zs) (view z ∷ put_by key (view y) (map view zs))) [
        | Less ↦ refl
        | Equal ↦ refl
        | Greater ↦ ap (λ (t : List X). view z ∷ t) (map-put y zs)
      ]

  pub found-map : (k : List ℕ) (ys : List Y) → is_some (find_by (λ y. key (view y)) k ys) ≡ is_some (find_by key k (map view ys))
  found-map k [] = refl
  found-map k (y ∷ ys) = elim (bytes_eq k (key (view y))) as (λ b. is_some (cond b (Some y) (find_by (λ y. key (view y)) k ys)) ≡ is_some (cond b (Some (view y)) (find_by key k (map view ys)))) [ true ↦ refl | false ↦ found-map k ys ]

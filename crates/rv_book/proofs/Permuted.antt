-- Laws of items with keys of their own in another order: the same are found, and a sort by the keys' bytes puts them in order.
use Rattle.std.proofs.Common.{◌≡◌, ℕ, suc, ◌+◌, ◌≤◌, true, false, cond, List, [], ◌∷◌, get_or, Some, None, refl, sym, ap, ◌∙◌, subst, arith}
use Rattle.std.specs.declared.cmp.Ordering.TheVariants.{Less, Equal, Greater}
use Rattle.std.specs.Ordering.{nat_cmp, is_lt}
use Rattle.std.specs.Cmp.Lexicographic.{slice_cmp}
use Rattle.std.specs.Str.{bytes_eq}
use Rattle.std.specs.Option.{is_some}
use Rattle.std.specs.List.{count_by, AllByRecursion}
use Rattle.std.specs.List.Sorted.{IsPermutation, IsSortedByKey}
use Rattle.std.proofs.lemmas.List.Elements.{All-from_recursion, recursion_from_All}
use Rattle.std.proofs.lemmas.List.Sorted.{All-permutation, sum_by-IsPermutation, list_any-IsPermutation}
use Rattle.std.proofs.lemmas.List.Sums.{sum_by-cons}
use Rattle.std.proofs.lemmas.Option.{none-some}
use Rattle.std.proofs.lemmas.Slice.Eq.{bytes_eq-Decides}
use Rattle.rv_base.specs.Sorted.{find_by, InOrder, Distinct, Below}
use Rattle.rv_base.specs.PositionLaws.{below_is, same_from, equals, above_chain, found-any, none_found, others}
use Rattle.rv_book.specs.BookWordLaws.{bytes_eq_back}
use Rattle.rv_book.proofs.IndexLaws.{found_key, found_all}

pub all-permuted : {X : Type 0} (P : X → Type 0) (xs ys : List X) → IsPermutation xs ys → AllByRecursion P xs → AllByRecursion P ys
all-permuted P xs ys same all = recursion_from_All P ys (All-permutation P xs ys same (All-from_recursion P xs all))

module _ {X : Type 0} (key : X → List ℕ) where
  -- how many items have the key
  abbrev with_key : List ℕ → List X → ℕ
  with_key k xs = count_by (λ x. bytes_eq k (key x)) xs

  with_key-cons : (k : List ℕ) (x : X) (xs : List X) → with_key k (x ∷ xs) ≡ cond (bytes_eq k (key x)) 1 0 + with_key k xs
  with_key-cons k x xs = sum_by-cons (λ y. cond (bytes_eq k (key y)) 1 0) x xs

  none_with_key : (k : List ℕ) (xs : List X) → find_by key k xs ≡ None → with_key k xs ≡ 0
  none_with_key k [] none = refl
  none_with_key k (x ∷ xs) none =
      with_key-cons k x xs
      ∙ (elim (bytes_eq k (key x)) as (λ b. cond b (Some x) (find_by key k xs) ≡ None → cond b 1 0 + with_key k xs ≡ 0) [
        | true ↦ λ e. absurd (none-some x (sym e))
        | false ↦ λ e. omega (arith, none_with_key k xs e)
      ] none)

  none_found_with_key : (k : List ℕ) (xs : List X) → with_key k xs ≡ 0 → find_by key k xs ≡ None
  none_found_with_key k [] none = refl
  none_found_with_key k (x ∷ xs) none =
      elim (bytes_eq k (key x)) as (λ b. cond b 1 0 + with_key k xs ≡ 0 → cond b (Some x) (find_by key k xs) ≡ None) [
        | true ↦ λ e. absurd (omega (arith, e))
        | false ↦ λ e. none_found_with_key k xs (omega (arith, e))
      ] (sym (with_key-cons k x xs) ∙ none)

  -- the items' keys are distinct where each key has at most one
  at_most_one : (k : List ℕ) (xs : List X) → Distinct key xs → with_key k xs ≤ 1
  at_most_one k [] h = omega arith
  at_most_one k (x ∷ xs) h =
      subst (λ (n : ℕ). n ≤ 1) (sym (with_key-cons k x xs))
      (elim (bytes_eq k (key x)) as (λ b. bytes_eq k (key x) ≡ b → cond b 1 0 + with_key k xs ≤ 1) [
        | true ↦ λ e. omega (arith, none_with_key k xs (subst (λ (t : List ℕ). find_by key t xs ≡ None) (sym ((bytes_eq-Decides k (key x)).0 e)) h.0))
        | false ↦ λ e. omega (arith, at_most_one k xs h.1)
      ] refl)

  distinct_where_one : (xs : List X) → ((k : List ℕ) → with_key k xs ≤ 1) → Distinct key xs
  distinct_where_one [] one = tt
  distinct_where_one (x ∷ xs) one =
      let own : with_key (key x) (x ∷ xs) ≡ 1 + with_key (key x) xs = with_key-cons (key x) x xs ∙ ap (λ b. cond b 1 0 + with_key (key x) xs) (equals (key x)) in
      (none_found_with_key (key x) xs (omega (arith, own, one (key x))), distinct_where_one xs (λ k. omega (arith, with_key-cons k x xs, one k)))

  pub distinct-permuted : (xs ys : List X) → IsPermutation xs ys → Distinct key xs → Distinct key ys
  distinct-permuted xs ys same h = distinct_where_one ys (λ k. omega (arith, sum_by-IsPermutation (λ x. cond (bytes_eq k (key x)) 1 0) xs ys same, at_most_one k xs h))

  -- each item is what is found at its key
  itself : (xs : List X) → Distinct key xs → AllByRecursion (λ x. find_by key (key x) xs ≡ Some x) xs
  itself [] h = tt
  itself (x ∷ xs) h = (rw (equals (key x)) refl, after xs (others key (key x) xs h.0) (itself xs h.1))
    where
      after : (ys : List X) → AllByRecursion (λ y. bytes_eq (key x) (key y) ≡ false) ys → AllByRecursion (λ y. find_by key (key y) xs ≡ Some y) ys → AllByRecursion (λ y. find_by key (key y) (x ∷ xs) ≡ Some y) ys
      after [] apart all = tt
      after (y ∷ ys) apart all = (rw (bytes_eq_back (key y) (key x) ∙ apart.0) all.0, after ys apart.1 all.1)

  -- the same are found in another order
  pub find-permuted : (k : List ℕ) (xs ys : List X) → IsPermutation xs ys → Distinct key xs → find_by key k ys ≡ find_by key k xs
  find-permuted k xs ys same h =
      elim (find_by key k ys) as (λ o. find_by key k ys ≡ o → o ≡ find_by key k xs) [
        | None ↦ λ e. sym (none_found key k xs (found-any key k xs ∙ list_any-IsPermutation (λ x. bytes_eq k (key x)) xs ys same ∙ sym (found-any key k ys) ∙ ap is_some e))
        | Some y ↦ λ e.
            let there : find_by key (key y) xs ≡ Some y = found_all key (λ x. find_by key (key x) xs ≡ Some x) k y ys (all-permuted (λ x. find_by key (key x) xs ≡ Some x) xs ys same (itself xs h)) e in
            sym there ∙ ap (λ (t : List ℕ). find_by key t xs) (found_key key k y ys e)
      ] refl

  -- no key is below the one before it, and no two are the same: so each is below all later ones
  pub in_order-from_sort : (xs : List X) → IsSortedByKey key (slice_cmp nat_cmp) xs → Distinct key xs → InOrder key xs
  in_order-from_sort [] sorted h = tt
  in_order-from_sort (x ∷ []) sorted h = (tt, tt)
  in_order-from_sort (x ∷ y ∷ ys) sorted h =
      let rest = in_order-from_sort (y ∷ ys) later h.1 in
      ((low, above_chain key (key x) (key y) ys low rest.0), rest)
    where
      later : IsSortedByKey key (slice_cmp nat_cmp) (y ∷ ys)
      later k d le lt =
          let next : suc k + 1 ≡ suc (k + 1) = omega arith in
          subst (λ (j : ℕ). is_lt (slice_cmp nat_cmp (key (get_or (x ∷ y ∷ ys) j d)) (key (get_or (y ∷ ys) k d))) ≡ false) next (sorted (suc k) d (omega arith) (omega (arith, lt)))

      low : Below (key x) (key y)
      low =
          elim (slice_cmp nat_cmp (key x) (key y)) as (λ o. slice_cmp nat_cmp (key x) (key y) ≡ o → o ≡ Less) [
            | Less ↦ λ e. refl
            | Equal ↦ λ e. absurd (none-some y (sym h.0 ∙ subst (λ (k : List ℕ). find_by key k (y ∷ ys) ≡ Some y) (sym (same_from (key x) (key y) e)) (rw (equals (key y)) refl)))
            | Greater ↦ λ e. absurd (let both : true ≡ false = sym (ap is_lt (below_is (key x) (key y) e)) ∙ sorted 0 x (omega arith) (omega arith) in cc)
          ] refl

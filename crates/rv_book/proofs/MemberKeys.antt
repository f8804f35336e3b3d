-- Laws of the keys of a group and a client: their order, and where the clients of a group stand in it.
use Rattle.std.proofs.Common.{◌≡◌, ℕ, zero, suc, ◌+◌, ◌<◌, ◌≤◌, Bool, true, false, ◌&&◌, List, [], ◌∷◌, length, get_or, take, drop, refl, sym, ap, ◌∙◌, subst, arith}
use Rattle.std.specs.declared.cmp.Ordering.{Ordering}
use Rattle.std.specs.declared.cmp.Ordering.TheVariants.{Less, Equal, Greater}
use Rattle.std.specs.Ordering.{nat_cmp, ordering_then, is_eq, is_lt, is_le, MatchOrdering}
use Rattle.std.specs.Cmp.{nat_cmp_is}
use Rattle.std.specs.Cmp.Lexicographic.{slice_cmp}
use Rattle.std.specs.Str.{bytes_eq}
use Rattle.std.specs.List.{filter, AllByRecursion}
use Rattle.std.specs.List.Sorted.{IsPartitionedBy, IsPartitionPoint}
use Rattle.std.proofs.lemmas.Cmp.{nat_list_cmp_total, ranked, tied_itself}
use Rattle.std.proofs.lemmas.List.{get_or-drop, length-drop}
use Rattle.std.proofs.lemmas.Map.Text.{is_eq-slice_cmp}
use Rattle.rv_base.specs.Sorted.{InOrder, Below}
use Rattle.rv_base.specs.PositionLaws.{Above, same_from}
use Rattle.rv_book.specs.Members.{member_key, client_of_key}

then_then : (a b c : Ordering) → ordering_then a (ordering_then b c) ≡ ordering_then (ordering_then a b) c
then_then Less b c = refl
then_then Equal b c = refl
then_then Greater b c = refl

cmp-suc : (x y : ℕ) → nat_cmp (suc x) (suc y) ≡ nat_cmp x y
cmp-suc x y = sym (nat_cmp_is (suc x) (suc y) (nat_cmp x y) (raised (nat_cmp x y) (ranked x y (nat_cmp x y) refl)))
  where
    raised : (o : Ordering) → MatchOrdering o (x < y) (x ≡ y) (y < x) → MatchOrdering o (suc x < suc y) (suc x ≡ suc y) (suc y < suc x)
    raised Less h = omega (arith, h)
    raised Equal h = ap suc h
    raised Greater h = omega (arith, h)

cmp-zero : (y : ℕ) → nat_cmp 0 (suc y) ≡ Less
cmp-zero y = sym (nat_cmp_is 0 (suc y) Less (omega arith))

cmp-above_zero : (x : ℕ) → nat_cmp (suc x) 0 ≡ Greater
cmp-above_zero x = sym (nat_cmp_is (suc x) 0 Greater (omega arith))

-- keys are ordered by the groups and then by the clients
pub cmp-member_key : (g h c d : List ℕ) → slice_cmp nat_cmp (member_key g c) (member_key h d) ≡ ordering_then (slice_cmp nat_cmp g h) (slice_cmp nat_cmp c d)
cmp-member_key [] [] c d = refl
cmp-member_key [] (y ∷ h) c d = ap (λ (o : Ordering). ordering_then o (slice_cmp nat_cmp c (member_key h d))) (cmp-zero y)
cmp-member_key (x ∷ g) [] c d = ap (λ (o : Ordering). ordering_then o (slice_cmp nat_cmp (member_key g c) d)) (cmp-above_zero x)
cmp-member_key (x ∷ g) (y ∷ h) c d = (λ i. ordering_then (cmp-suc x y i) (cmp-member_key g h c d i)) ∙ then_then (nat_cmp x y) (slice_cmp nat_cmp g h) (slice_cmp nat_cmp c d)

both_equal : (a b : Ordering) → is_eq (ordering_then a b) ≡ (is_eq a && is_eq b)
both_equal Less b = refl
both_equal Equal b = refl
both_equal Greater b = refl

pub same-member_key : (g h c d : List ℕ) → bytes_eq (member_key g c) (member_key h d) ≡ (bytes_eq g h && bytes_eq c d)
same-member_key g h c d =
    sym (is_eq-slice_cmp (member_key g c) (member_key h d)) ∙ ap is_eq (cmp-member_key g h c d) ∙ both_equal (slice_cmp nat_cmp g h) (slice_cmp nat_cmp c d)
    ∙ (λ i. is_eq-slice_cmp g h i && is_eq-slice_cmp c d i)

pub client-member_key : (g c : List ℕ) → client_of_key (member_key g c) ≡ c
client-member_key [] c = refl
client-member_key (x ∷ g) c = client-member_key g c

-- how one stands to a third, by how both stand to another
le_le : (a b c : List ℕ) → is_le (slice_cmp nat_cmp a b) ≡ true → is_le (slice_cmp nat_cmp b c) ≡ true → is_le (slice_cmp nat_cmp a c) ≡ true
le_le a b c h g =
    elim (slice_cmp nat_cmp a b) as (λ o. slice_cmp nat_cmp a b ≡ o → is_le o ≡ true → is_le (slice_cmp nat_cmp a c) ≡ true) [
      | Less ↦ λ e f. below e
      | Equal ↦ λ e f. subst (λ (t : List ℕ). is_le (slice_cmp nat_cmp t c) ≡ true) (sym (same_from a b e)) g
      | Greater ↦ λ e f. absurd (cc)
    ] refl h
  where
    below : Below a b → is_le (slice_cmp nat_cmp a c) ≡ true
    below low =
        elim (slice_cmp nat_cmp b c) as (λ o. slice_cmp nat_cmp b c ≡ o → is_le o ≡ true → is_le (slice_cmp nat_cmp a c) ≡ true) [
          | Less ↦ λ e f. ap is_le (nat_list_cmp_total.trans a b c low e)
          | Equal ↦ λ e f. subst (λ (t : List ℕ). is_le (slice_cmp nat_cmp a t) ≡ true) (same_from b c e) (ap is_le low)
          | Greater ↦ λ e f. absurd (cc)
        ] refl g

le_lt : (a b c : List ℕ) → is_le (slice_cmp nat_cmp a b) ≡ true → is_lt (slice_cmp nat_cmp b c) ≡ true → is_lt (slice_cmp nat_cmp a c) ≡ true
le_lt a b c h g =
    elim (slice_cmp nat_cmp a b) as (λ o. slice_cmp nat_cmp a b ≡ o → is_le o ≡ true → is_lt (slice_cmp nat_cmp a c) ≡ true) [
      | Less ↦ λ e f. ap is_lt (nat_list_cmp_total.trans a b c e (less g))
      | Equal ↦ λ e f. subst (λ (t : List ℕ). is_lt (slice_cmp nat_cmp t c) ≡ true) (sym (same_from a b e)) g
      | Greater ↦ λ e f. absurd (cc)
    ] refl h
  where
    less : is_lt (slice_cmp nat_cmp b c) ≡ true → Below b c
    less f = elim (slice_cmp nat_cmp b c) as (λ o. is_lt o ≡ true → o ≡ Less) [ Less ↦ λ e. refl | Equal ↦ λ e. absurd (cc) | Greater ↦ λ e. absurd (cc) ] f

-- a filter, where nothing passes before a place, or nothing from a place on
module _ {X : Type 0} (p : X → Bool) where
  filter_skip : (xs : List X) (m : ℕ) → ((k : ℕ) (d : X) → k < m → k < length xs → p (get_or xs k d) ≡ false) → filter p xs ≡ filter p (drop m xs)
  filter_skip [] zero none = refl
  filter_skip [] (suc m) none = refl
  filter_skip (x ∷ xs) zero none = refl
  filter_skip (x ∷ xs) (suc m) none = rw (none 0 x (omega arith) (omega arith)) (filter_skip xs m (λ k d lt in_range. none (suc k) d (omega (arith, lt)) (omega (arith, in_range))))

  filter_take : (xs : List X) (n : ℕ) → ((k : ℕ) (d : X) → k < n → k < length xs → p (get_or xs k d) ≡ true) → ((k : ℕ) (d : X) → n ≤ k → k < length xs → p (get_or xs k d) ≡ false) → filter p xs ≡ take n xs
  filter_take [] zero all none = refl
  filter_take [] (suc n) all none = refl
  filter_take (x ∷ xs) zero all none = rw (none 0 x (omega arith) (omega arith)) (filter_take xs zero (λ k d lt in_range. absurd (omega (arith, lt))) (λ k d le in_range. none (suc k) d (omega arith) (omega (arith, in_range))))
  filter_take (x ∷ xs) (suc n) all none =
      rw (all 0 x (omega arith) (omega arith)) (ap (λ (t : List X). x ∷ t) (filter_take xs n (λ k d lt in_range. all (suc k) d (omega (arith, lt)) (omega (arith, in_range))) (λ k d le in_range. none (suc k) d (omega (arith, le)) (omega (arith, in_range)))))

parted-drop : {X : Type 0} (p : X → Bool) (xs : List X) (m : ℕ) → IsPartitionedBy p xs → IsPartitionedBy p (drop m xs)
parted-drop {X} p xs m h = λ i j d le lt passes.
    subst (λ (x : X). p x ≡ true) (sym (get_or-drop m xs i d))
    (h (m + i) (m + j) d (omega (arith, le)) (omega (arith, lt, length-drop m xs)) (subst (λ (x : X). p x ≡ true) (get_or-drop m xs j d) passes))

above_at : {X : Type 0} (key : X → List ℕ) (k : List ℕ) (xs : List X) (j : ℕ) (d : X) → j < length xs → Above key k xs → Below k (key (get_or xs j d))
above_at key k [] j d lt all = absurd (omega (arith, lt))
above_at key k (x ∷ xs) zero d lt all = all.0
above_at key k (x ∷ xs) (suc j) d lt all = above_at key k xs j d (omega (arith, lt)) all.1

-- items in the order of a group and a client
module _ {X : Type 0} (group client : X → List ℕ) where
  abbrev pub pair : X → List ℕ
  pair x = member_key (group x) (client x)

  first_le : (a b : X) → Below (pair a) (pair b) → is_le (slice_cmp nat_cmp (group a) (group b)) ≡ true
  first_le a b low =
      elim (slice_cmp nat_cmp (group a) (group b)) as (λ o. ordering_then o (slice_cmp nat_cmp (client a) (client b)) ≡ Less → is_le o ≡ true) [
        | Less ↦ λ e. refl
        | Equal ↦ λ e. refl
        | Greater ↦ λ e. absurd (cc)
      ] (sym (cmp-member_key (group a) (group b) (client a) (client b)) ∙ low)

  groups_rise : (xs : List X) (i j : ℕ) (d : X) → InOrder pair xs → i ≤ j → j < length xs → is_le (slice_cmp nat_cmp (group (get_or xs i d)) (group (get_or xs j d))) ≡ true
  groups_rise [] i j d sorted le lt = absurd (omega (arith, lt))
  groups_rise (x ∷ xs) zero zero d sorted le lt = le_itself (group x)
    where
      le_itself : (a : List ℕ) → is_le (slice_cmp nat_cmp a a) ≡ true
      le_itself a = ap is_le (tied_itself nat_list_cmp_total a)
  groups_rise (x ∷ xs) zero (suc j) d sorted le lt = first_le x (get_or xs j d) (above_at pair (pair x) xs j d (omega (arith, lt)) sorted.0)
  groups_rise (x ∷ xs) (suc i) zero d sorted le lt = absurd (omega (arith, le))
  groups_rise (x ∷ xs) (suc i) (suc j) d sorted le lt = groups_rise xs i j d sorted.1 (omega (arith, le)) (omega (arith, lt))

  -- the items whose group is below g stand first, and then those whose group it is
  pub parted_below : (g : List ℕ) (xs : List X) → InOrder pair xs → IsPartitionedBy (λ x. is_lt (slice_cmp nat_cmp (group x) g)) xs
  parted_below g xs sorted = λ i j d le lt passes. le_lt (group (get_or xs i d)) (group (get_or xs j d)) g (groups_rise xs i j d sorted le lt) passes

  pub parted_upto : (g : List ℕ) (xs : List X) (m : ℕ) → InOrder pair xs → IsPartitionedBy (λ x. is_le (slice_cmp nat_cmp (group x) g)) (drop m xs)
  parted_upto g xs m sorted = parted-drop (λ x. is_le (slice_cmp nat_cmp (group x) g)) xs m (λ i j d le lt passes. le_le (group (get_or xs i d)) (group (get_or xs j d)) g (groups_rise xs i j d sorted le lt) passes)

  -- so the items of a group stand between two places
  pub group_stands : (g : List ℕ) (xs : List X) (m n : ℕ) → IsPartitionPoint (λ x. is_lt (slice_cmp nat_cmp (group x) g) ≡ true) (λ x. is_lt (slice_cmp nat_cmp (group x) g) ≡ false) xs m
      → IsPartitionPoint (λ x. is_le (slice_cmp nat_cmp (group x) g) ≡ true) (λ x. is_le (slice_cmp nat_cmp (group x) g) ≡ false) (drop m xs) n → take n (drop m xs) ≡ filter (λ x. bytes_eq (group x) g) xs
  group_stands g xs m n below upto = sym (
      filter_skip (λ x. bytes_eq (group x) g) xs m (λ k d lt in_range. not_below (get_or xs k d) (below.0 k d (omega arith) lt))
      ∙ filter_take (λ x. bytes_eq (group x) g) (drop m xs) n (λ k d lt in_range. between (get_or (drop m xs) k d) (not_less k d in_range) (upto.0 k d (omega arith) lt)) (λ k d le in_range. not_upto (get_or (drop m xs) k d) (upto.1 k d le in_range)))
    where
      is : (x : X) → bytes_eq (group x) g ≡ is_eq (slice_cmp nat_cmp (group x) g)
      is x = sym (is_eq-slice_cmp (group x) g)

      not_below : (x : X) → is_lt (slice_cmp nat_cmp (group x) g) ≡ true → bytes_eq (group x) g ≡ false
      not_below x h = is x ∙ (elim (slice_cmp nat_cmp (group x) g) as (λ o. is_lt o ≡ true → is_eq o ≡ false) [ Less ↦ λ e. refl | Equal ↦ λ e. absurd (cc) | Greater ↦ λ e. absurd (cc) ] h)

      not_upto : (x : X) → is_le (slice_cmp nat_cmp (group x) g) ≡ false → bytes_eq (group x) g ≡ false
      not_upto x h = is x ∙ (elim (slice_cmp nat_cmp (group x) g) as (λ o. is_le o ≡ false → is_eq o ≡ false) [ Less ↦ λ e. absurd (cc) | Equal ↦ λ e. absurd (cc) | Greater ↦ λ e. refl ] h)

      between : (x : X) → is_lt (slice_cmp nat_cmp (group x) g) ≡ false → is_le (slice_cmp nat_cmp (group x) g) ≡ true → bytes_eq (group x) g ≡ true
      between x h f = is x ∙ (elim (slice_cmp nat_cmp (group x) g) as (λ o. is_lt o ≡ false → is_le o ≡ true → is_eq o ≡ true) [ Less ↦ λ a b. absurd (cc) | Equal ↦ λ a b. refl | Greater ↦ λ a b. absurd (cc) ] h f)

      not_less : (k : ℕ) (d : X) → k < length (drop m xs) → is_lt (slice_cmp nat_cmp (group (get_or (drop m xs) k d)) g) ≡ false
      not_less k d in_range =
          subst (λ (x : X). is_lt (slice_cmp nat_cmp (group x) g) ≡ false) (sym (get_or-drop m xs k d)) (below.1 (m + k) d (omega arith) (omega (arith, in_range, length-drop m xs)))

  -- the same, where what stands from the first place on is named
  pub group_stands_in : (g : List ℕ) (xs rest : List X) (m n : ℕ) → rest ≡ drop m xs → InOrder pair xs
      → (IsPartitionedBy (λ x. is_lt (slice_cmp nat_cmp (group x) g)) xs → IsPartitionPoint (λ x. is_lt (slice_cmp nat_cmp (group x) g) ≡ true) (λ x. is_lt (slice_cmp nat_cmp (group x) g) ≡ false) xs m)
      → (IsPartitionedBy (λ x. is_le (slice_cmp nat_cmp (group x) g)) rest → IsPartitionPoint (λ x. is_le (slice_cmp nat_cmp (group x) g) ≡ true) (λ x. is_le (slice_cmp nat_cmp (group x) g) ≡ false) rest n)
      → take n rest ≡ filter (λ x. bytes_eq (group x) g) xs
  group_stands_in g xs rest m n is sorted below upto =
      let parted : IsPartitionedBy (λ x. is_le (slice_cmp nat_cmp (group x) g)) rest = subst (λ (ys : List X). IsPartitionedBy (λ x. is_le (slice_cmp nat_cmp (group x) g)) ys) (sym is) (parted_upto g xs m sorted) in
      let last : IsPartitionPoint (λ x. is_le (slice_cmp nat_cmp (group x) g) ≡ true) (λ x. is_le (slice_cmp nat_cmp (group x) g) ≡ false) (drop m xs) n =
      subst (λ (ys : List X). IsPartitionPoint (λ x. is_le (slice_cmp nat_cmp (group x) g) ≡ true) (λ x. is_le (slice_cmp nat_cmp (group x) g) ≡ false) ys n) is (upto parted) in
      ap (take n) is ∙ group_stands g xs m n (below (parted_below g xs sorted)) last

  -- the items of one group stand in the order of their clients
  above-group : (g : List ℕ) (x : X) (xs : List X) → group x ≡ g → AllByRecursion (λ y. group y ≡ g) xs → Above pair (pair x) xs → Above client (client x) xs
  above-group g x [] is all h = tt
  above-group g x (y ∷ ys) is all h = (below, above-group g x ys is all.1 h.1)
    where
      below : Below (client x) (client y)
      below =
          let first : slice_cmp nat_cmp (group x) (group y) ≡ Equal = (λ i. slice_cmp nat_cmp (is i) (all.0 i)) ∙ tied_itself nat_list_cmp_total g in
          ap (λ (o : Ordering). ordering_then o (slice_cmp nat_cmp (client x) (client y))) (sym first) ∙ sym (cmp-member_key (group x) (group y) (client x) (client y)) ∙ h.0

  pub in_order-group : (g : List ℕ) (xs : List X) → AllByRecursion (λ x. group x ≡ g) xs → InOrder pair xs → InOrder client xs
  in_order-group g [] all h = tt
  in_order-group g (x ∷ xs) all h = (above-group g x xs all.0 all.1 h.0, in_order-group g xs all.1 h.1)

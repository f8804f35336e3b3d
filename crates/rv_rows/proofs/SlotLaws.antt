-- Laws of orders of slots, for any items in the slots and any key of an item.
use Rattle.std.proofs.Common.{◌≡◌, ℕ, zero, suc, ◌<◌, ◌≤◌, ◌≢◌, Bool, true, false, cond, ◌||◌, ◌&&◌, not, eqb, List, [], ◌∷◌, ◌++◌, map, length, get_or, set, take, drop, Option, Some, None, Result, Ok, Err, refl, sym, ap, ◌∙◌, subst, arith}
use Rattle.std.specs.declared.cmp.Ordering.{Ordering}
use Rattle.std.specs.declared.cmp.Ordering.TheVariants.{Less, Equal, Greater}
use Rattle.std.specs.Ordering.{nat_cmp, ordering_index}
use Rattle.std.specs.Cmp.Lexicographic.{slice_cmp}
use Rattle.std.specs.Str.{bytes_eq}
use Rattle.std.specs.Option.{option_map}
use Rattle.std.specs.List.{filter, list_any, AllByRecursion}
use Rattle.std.specs.List.Sorted.{IsBinarySearchResult, IsSearchInRange}
use Rattle.std.proofs.lemmas.List.{get_or-map, length-map, map-append, take-map, drop-map}
use Rattle.std.proofs.lemmas.List.Sorted.{IsPermutation-insert, list_any-IsPermutation}
use Rattle.std.proofs.lemmas.Option.{none-some, same_Some}
use Rattle.std.proofs.lemmas.Bool.Decides.{Decides-eqb}
use Rattle.std.proofs.lemmas.Slice.Eq.{bytes_eq-Decides}
use Rattle.std.proofs.lemmas.Cmp.{nat_list_cmp_total, tied_itself}
use Rattle.rv_base.specs.Sorted.{find_by, InOrder, IsPositionOf, Below}
use Rattle.rv_base.specs.PositionLaws.{Above, equals, differs_back, find_found, settles}
use Rattle.rv_base.specs.ArrangedLaws.{in_order-same, find-map}
use Rattle.rv_rows.specs.Slots.{AreSame, relabelled, renamed}

-- by cases on a test, with what it says
pub by_flag : (P : Bool → Type 0) (b : Bool) → (b ≡ true → P true) → (b ≡ false → P false) → P b
by_flag P true t f = t refl
by_flag P false t f = f refl

-- by cases on what is found
pub by_found : {X : Type 0} (P : Option X → Type 0) (o : Option X) → (o ≡ None → P None) → ((x : X) → o ≡ Some x → P (Some x)) → P o
by_found P None n s = n refl
by_found P (Some x) n s = s x refl

true_false : true ≡ false → ⊥
true_false e = absurd (cc)

-- no key is below itself
pub not_below : (k : List ℕ) → Below k k → ⊥
not_below k h = let both : Less ≡ Equal = sym h ∙ tied_itself nat_list_cmp_total k in absurd (cc)

-- within a list the default is not read
pub any_default : {X : Type 0} (xs : List X) (j : ℕ) (d e : X) → j < length xs → get_or xs j d ≡ get_or xs j e
any_default [] j d e lt = absurd (omega arith)
any_default (x ∷ xs) zero d e lt = refl
any_default (x ∷ xs) (suc j) d e lt = any_default xs j d e (omega arith)

-- orders of slots, each with a key
module _ (g : ℕ → List ℕ) where
  above_member : (k : List ℕ) (os : List ℕ) (i : ℕ) → Above g k os → list_any (eqb i) os ≡ true → Below k (g i)
  above_member k [] i all e = absurd (true_false (sym e))
  above_member k (o ∷ os) i all e =
      by_flag (λ b. (b || list_any (eqb i) os) ≡ true → Below k (g i)) (eqb i o)
      (λ t f. subst (λ (j : ℕ). Below k (g j)) (sym ((Decides-eqb i o).0 t)) all.0)
      (λ t f. above_member k os i all.1 f) e

  -- a slot is found at its own key
  pub found_member : (os : List ℕ) (i : ℕ) → InOrder g os → list_any (eqb i) os ≡ true → find_by g (g i) os ≡ Some i
  found_member [] i h e = absurd (true_false (sym e))
  found_member (o ∷ os) i h e =
      by_flag (λ b. (b || list_any (eqb i) os) ≡ true → find_by g (g i) (o ∷ os) ≡ Some i) (eqb i o)
      (λ t f. subst (λ (j : ℕ). find_by g (g j) (o ∷ os) ≡ Some j) (sym ((Decides-eqb i o).0 t)) (rw (equals (g o)) refl))
      (λ t f. rw (differs_back (g o) (g i) (above_member (g o) os i h.0 f)) (found_member os i h.1 f)) e

  -- what is found is a slot of the order, and has the key
  pub member_found : (k : List ℕ) (os : List ℕ) (i : ℕ) → find_by g k os ≡ Some i → (list_any (eqb i) os ≡ true) × (k ≡ g i)
  member_found k [] i e = absurd (none-some i e)
  member_found k (o ∷ os) i e =
      by_flag (λ b. cond b (Some o) (find_by g k os) ≡ Some i → (list_any (eqb i) (o ∷ os) ≡ true) × (k ≡ g i)) (bytes_eq k (g o))
      (λ t f. let same : o ≡ i = same_Some o i f in (ap (λ (b : Bool). b || list_any (eqb i) os) ((Decides-eqb i o).1 (sym same)), (bytes_eq-Decides k (g o)).0 t ∙ ap g same))
      (λ t f. let later = member_found k os i f in (by_flag (λ b. (b || list_any (eqb i) os) ≡ true) (eqb i o) (λ _. refl) (λ _. later.0), later.1)) e

  found_alike : (xs ys : List ℕ) → InOrder g xs → InOrder g ys → AreSame xs ys → (k : List ℕ) → find_by g k xs ≡ find_by g k ys
  found_alike xs ys h f same k =
      by_found (λ o. o ≡ find_by g k ys) (find_by g k xs)
      (λ e. by_found (λ o. None ≡ o) (find_by g k ys) (λ _. refl) (λ i d. let at = member_found k ys i d in absurd (none-some i (sym e ∙ ap (λ (t : List ℕ). find_by g t xs) at.1 ∙ found_member xs i h (same (eqb i) ∙ at.0)))))
      (λ i e. let at = member_found k xs i e in sym (ap (λ (t : List ℕ). find_by g t ys) at.1 ∙ found_member ys i f (sym (same (eqb i)) ∙ at.0)))

  -- two orders of the same slots by the same key are equal
  pub same_orders : (xs ys : List ℕ) → InOrder g xs → InOrder g ys → AreSame xs ys → xs ≡ ys
  same_orders xs ys h f same = in_order-same g xs ys h f (found_alike xs ys h f same)

  apart_above : (s o : ℕ) → Below (g s) (g o) → eqb s o ≡ false
  apart_above s o low = by_flag (λ b. b ≡ false) (eqb s o) (λ t. absurd (not_below (g s) (subst (λ (j : ℕ). Below (g s) (g j)) (sym ((Decides-eqb s o).0 t)) low))) (λ _. refl)

  apart_below : (s o : ℕ) → Below (g o) (g s) → eqb s o ≡ false
  apart_below s o low = by_flag (λ b. b ≡ false) (eqb s o) (λ t. absurd (not_below (g s) (subst (λ (j : ℕ). Below (g j) (g s)) (sym ((Decides-eqb s o).0 t)) low))) (λ _. refl)

  kept_above : (s : ℕ) (os : List ℕ) → Above g (g s) os → filter (λ i. not (eqb s i)) os ≡ os
  kept_above s [] all = refl
  kept_above s (o ∷ os) all = rw (apart_above s o all.0) (ap (λ (t : List ℕ). o ∷ t) (kept_above s os all.1))

  above_at : (k : List ℕ) (os : List ℕ) (j : ℕ) → j < length os → Above g k os → Below k (g (get_or os j 0))
  above_at k [] j lt all = absurd (omega arith)
  above_at k (o ∷ os) zero lt all = all.0
  above_at k (o ∷ os) (suc j) lt all = above_at k os j (omega arith) all.1

  -- an order without the slot at a position is without that slot
  pub struck : (os : List ℕ) (j s : ℕ) → InOrder g os → j < length os → get_or os j 0 ≡ s → take j os ++ drop (suc j) os ≡ filter (λ i. not (eqb s i)) os
  struck [] j s h lt is = absurd (omega arith)
  struck (o ∷ os) zero s h lt is =
      let same : eqb s o ≡ true = (Decides-eqb s o).1 (sym is) in
      rw same (sym (kept_above s os (subst (λ (j : ℕ). Above g (g j) os) is h.0)))
  struck (o ∷ os) (suc j) s h lt is =
      let low : Below (g o) (g s) = subst (λ (j : ℕ). Below (g o) (g j)) is (above_at (g o) os j (omega arith) h.0) in
      rw (apart_below s o low) (ap (λ (t : List ℕ). o ∷ t) (struck os j s h.1 (omega arith) is))

  -- a new item in the slot at a position
  pub rewritten : {X : Type 0} (f h : ℕ → X) (os : List ℕ) (j s : ℕ) (x : X) → h s ≡ x → ((o : ℕ) → eqb s o ≡ false → h o ≡ f o) → InOrder g os → j < length os → get_or os j 0 ≡ s → map h os ≡ set (map f os) j x
  rewritten f h [] j s x new old sorted lt is = absurd (omega arith)
  rewritten f h (o ∷ os) zero s x new old sorted lt is =
      λ i. (ap h is ∙ new) i ∷ unwritten os (subst (λ (j : ℕ). Above g (g j) os) is sorted.0) i
    where
      unwritten : (os : List ℕ) → Above g (g s) os → map h os ≡ map f os
      unwritten [] all = refl
      unwritten (o ∷ os) all = λ i. old o (apart_above s o all.0) i ∷ unwritten os all.1 i
  rewritten f h (o ∷ os) (suc j) s x new old sorted lt is =
      let low : Below (g o) (g s) = subst (λ (j : ℕ). Below (g o) (g j)) is (above_at (g o) os j (omega arith) sorted.0) in
      λ i. old o (apart_below s o low) i ∷ rewritten f h os j s x new old sorted.1 (omega arith) is i

  unlike : (o s : ℕ) → (o ≡ s → ⊥) → eqb o s ≡ false
  unlike o s apart = by_flag (λ b. b ≡ false) (eqb o s) (λ t. absurd (apart ((Decides-eqb o s).0 t))) (λ _. refl)

  kept_number : (s to o : ℕ) → (o ≡ s → ⊥) → relabelled s to o ≡ o
  kept_number s to o apart = ap (λ (b : Bool). cond b to o) (unlike o s apart)

  kept_numbers : (s to : ℕ) (os : List ℕ) → Above g (g s) os → map (relabelled s to) os ≡ os
  kept_numbers s to [] all = refl
  kept_numbers s to (o ∷ os) all = λ i. kept_number s to o (λ same. not_below (g s) (subst (λ (j : ℕ). Below (g s) (g j)) same all.0)) i ∷ kept_numbers s to os all.1 i

  renamed_there : (os : List ℕ) (j s to : ℕ) → InOrder g os → j < length os → g (get_or os j 0) ≡ g s → set os j (relabelled s to (get_or os j 0)) ≡ map (relabelled s to) os
  renamed_there [] j s to h lt is = absurd (omega arith)
  renamed_there (o ∷ os) zero s to h lt is = ap (λ (t : List ℕ). relabelled s to o ∷ t) (sym (kept_numbers s to os (subst (λ (k : List ℕ). Above g k os) is h.0)))
  renamed_there (o ∷ os) (suc j) s to h lt is =
      let low : Below (g o) (g s) = subst (λ (k : List ℕ). Below (g o) k) is (above_at (g o) os j (omega arith) h.0) in
      λ i. sym (kept_number s to o (λ same. not_below (g s) (subst (λ (j : ℕ). Below (g j) (g s)) same low))) i ∷ renamed_there os j s to h.1 (omega arith) is i

  not_renamed : (s to : ℕ) (os : List ℕ) → find_by g (g s) os ≡ None → map (relabelled s to) os ≡ os
  not_renamed s to [] none = refl
  not_renamed s to (o ∷ os) none =
      by_flag (λ b. bytes_eq (g s) (g o) ≡ b → cond b (Some o) (find_by g (g s) os) ≡ None → map (relabelled s to) (o ∷ os) ≡ o ∷ os) (bytes_eq (g s) (g o))
      (λ _ _ e. absurd (none-some o (sym e)))
      (λ f _ e. λ i. kept_number s to o (λ same. true_false (sym (equals (g s)) ∙ subst (λ (j : ℕ). bytes_eq (g s) (g j) ≡ false) same f)) i ∷ not_renamed s to os e i)
      refl none

-- what is found has the key
pub found_key : {X : Type 0} (key : X → List ℕ) (k : List ℕ) (xs : List X) (x : X) → find_by key k xs ≡ Some x → k ≡ key x
found_key key k [] x h = absurd (none-some x h)
found_key key k (y ∷ ys) x h =
    by_flag (λ b. cond b (Some y) (find_by key k ys) ≡ Some x → k ≡ key x) (bytes_eq k (key y))
    (λ e f. (bytes_eq-Decides k (key y)).0 e ∙ ap key (same_Some y x f))
    (λ e f. found_key key k ys x f) h

-- orders of slots with items
module _ {X : Type 0} (key : X → List ℕ) (f : ℕ → X) where
  above_slots : (k : List ℕ) (os : List ℕ) → Above key k (map f os) → Above (λ i. key (f i)) k os
  above_slots k [] all = tt
  above_slots k (o ∷ os) all = (all.0, above_slots k os all.1)

  pub in_order-slots : (os : List ℕ) → InOrder key (map f os) → InOrder (λ i. key (f i)) os
  in_order-slots [] h = tt
  in_order-slots (o ∷ os) h = (above_slots (key (f o)) os h.0, in_order-slots os h.1)

  above_items : (k : List ℕ) (os : List ℕ) → Above (λ i. key (f i)) k os → Above key k (map f os)
  above_items k [] all = tt
  above_items k (o ∷ os) all = (all.0, above_items k os all.1)

  pub in_order-items : (os : List ℕ) → InOrder (λ i. key (f i)) os → InOrder key (map f os)
  in_order-items [] h = tt
  in_order-items (o ∷ os) h = (above_items (key (f o)) os h.0, in_order-items os h.1)

  -- what a binary search among the slots says of the items
  pub settled : (ord : ℕ → Ordering) (k : List ℕ) (os : List ℕ) (r : Result ℕ ℕ) → ((j : ℕ) → j < length os → ord (get_or os j 0) ≡ slice_cmp nat_cmp (key (f (get_or os j 0))) k)
      → InOrder key (map f os) → IsSearchInRange r (length os) → IsBinarySearchResult ord os r → IsPositionOf key k (map f os) r
  settled ord k os (Ok i) same sorted lt at =
      settles key k (map f os) (Ok i) sorted (rw (length-map os f) lt) (λ d. rw (get_or-map f os i 0 d lt) (sym (same i lt) ∙ at 0))
  settled ord k os (Err i) same sorted le parted =
      settles key k (map f os) (Err i) sorted (rw (length-map os f) le) (λ rises. parts (parted (rising rises)))
    where
      zero_for : (j d : ℕ) → j < length os → get_or os j d ≡ get_or os j 0
      zero_for j d lt = any_default os j d 0 lt

      rising : ((a b : ℕ) (d : X) → a ≤ b → b < length (map f os) → ordering_index (slice_cmp nat_cmp (key (get_or (map f os) a d)) k) ≤ ordering_index (slice_cmp nat_cmp (key (get_or (map f os) b d)) k))
          → (a b d : ℕ) → a ≤ b → b < length os → ordering_index (ord (get_or os a d)) ≤ ordering_index (ord (get_or os b d))
      rising rises a b d le lt =
          let low : a < length os = omega arith in
          rw (zero_for a d low, zero_for b d lt, same a low, same b lt, ← get_or-map f os a 0 (f 0) low, ← get_or-map f os b 0 (f 0) lt) (rises a b (f 0) le (rw (length-map os f) lt))

      parts : ((j d : ℕ) → 0 ≤ j → j < i → ord (get_or os j d) ≡ Less) × ((j d : ℕ) → i ≤ j → j < length os → ord (get_or os j d) ≡ Greater)
          → ((j : ℕ) (d : X) → 0 ≤ j → j < i → slice_cmp nat_cmp (key (get_or (map f os) j d)) k ≡ Less) × ((j : ℕ) (d : X) → i ≤ j → j < length (map f os) → slice_cmp nat_cmp (key (get_or (map f os) j d)) k ≡ Greater)
      parts p = (
        λ j d ge lt. let low : j < length os = omega arith in rw (get_or-map f os j 0 d low) (sym (same j low) ∙ p.0 j 0 ge lt),
        λ j d ge lt. let low : j < length os = rw (length-map os f) at lt in rw (get_or-map f os j 0 d low) (sym (same j low) ∙ p.1 j 0 ge low),
      )

  -- the item of a slot of the order is found at its key
  pub found_item : (os : List ℕ) (s : ℕ) → InOrder key (map f os) → list_any (eqb s) os ≡ true → find_by key (key (f s)) (map f os) ≡ Some (f s)
  found_item os s h e = sym (find-map key f (key (f s)) os) ∙ ap (option_map f) (found_member (λ i. key (f i)) os s (in_order-slots os h) e)

  -- the position of the item of a slot is the slot's
  pub at_position : (os : List ℕ) (s at : ℕ) → InOrder key (map f os) → list_any (eqb s) os ≡ true → IsPositionOf key (key (f s)) (map f os) (Ok at) → get_or os at 0 ≡ s
  at_position os s at h e there =
      let lt : at < length os = rw (length-map os f) at there.in_range in
      let item : f (get_or os at 0) ≡ f s = same_Some (f (get_or os at 0)) (f s) (ap (λ (x : X). Some x) (sym (get_or-map f os at 0 (f 0) lt)) ∙ sym (there.found (f 0)) ∙ found_item os s h e) in
      let slot : find_by (λ i. key (f i)) (key (f s)) os ≡ Some (get_or os at 0) = find_found (λ (i : ℕ). key (f i)) (key (f s)) os at 0 (in_order-slots os h) lt (ap key item) in
      same_Some (get_or os at 0) s (sym slot ∙ found_member (λ i. key (f i)) os s (in_order-slots os h) e)

  -- a slot that was looked for by its item's key has the other number wherever it stands
  pub renamed_settled : (os : List ℕ) (s to : ℕ) (r : Result ℕ ℕ) → InOrder key (map f os) → IsPositionOf key (key (f s)) (map f os) r → renamed r s to os ≡ map (relabelled s to) os
  renamed_settled os s to (Ok at) h there =
      let lt : at < length os = rw (length-map os f) at there.in_range in
      let is : key (f s) ≡ key (f (get_or os at 0)) = found_key key (key (f s)) (map f os) (get_or (map f os) at (f 0)) (there.found (f 0)) ∙ ap key (get_or-map f os at 0 (f 0) lt) in
      renamed_there (λ i. key (f i)) os at s to (in_order-slots os h) lt (sym is)
  renamed_settled os s to (Err at) h gap = sym (not_renamed (λ i. key (f i)) s to os (nothing (find_by (λ i. key (f i)) (key (f s)) os) (find-map key f (key (f s)) os ∙ gap.absent)))
    where
      nothing : (o : Option ℕ) → option_map f o ≡ None → o ≡ None
      nothing None e = refl
      nothing (Some i) e = absurd (none-some (f i) (sym e))

  pub never_gap : (os : List ℕ) (s at : ℕ) → InOrder key (map f os) → list_any (eqb s) os ≡ true → IsPositionOf key (key (f s)) (map f os) (Err at) → ⊥
  never_gap os s at h e gap = none-some (f s) (sym gap.absent ∙ found_item os s h e)

-- some slots of an order
pub all-filter : (P : ℕ → Type 0) (p : ℕ → Bool) (os : List ℕ) → AllByRecursion P os → AllByRecursion P (filter p os)
all-filter P p [] all = tt
all-filter P p (o ∷ os) all = elim (p o) as (λ b. AllByRecursion P (cond b (o ∷ filter p os) (filter p os))) [ true ↦ (all.0, all-filter P p os all.1) | false ↦ all-filter P p os all.1 ]

pub any-filter : (p q : ℕ → Bool) (os : List ℕ) → list_any p (filter q os) ≡ list_any (λ i. q i && p i) os
any-filter p q [] = refl
any-filter p q (o ∷ os) = elim (q o) as (λ b. list_any p (cond b (o ∷ filter q os) (filter q os)) ≡ ((b && p o) || list_any (λ i. q i && p i) os)) [ true ↦ ap (λ (b : Bool). p o || b) (any-filter p q os) | false ↦ any-filter p q os ]

pub any-map : (p : ℕ → Bool) (r : ℕ → ℕ) (os : List ℕ) → list_any p (map r os) ≡ list_any (λ i. p (r i)) os
any-map p r [] = refl
any-map p r (o ∷ os) = ap (λ (b : Bool). p (r o) || b) (any-map p r os)

pub same-filter : (q : ℕ → Bool) (xs ys : List ℕ) → AreSame xs ys → AreSame (filter q xs) (filter q ys)
same-filter q xs ys same p = any-filter p q xs ∙ same (λ i. q i && p i) ∙ sym (any-filter p q ys)

pub same-map : (r : ℕ → ℕ) (xs ys : List ℕ) → AreSame xs ys → AreSame (map r xs) (map r ys)
same-map r xs ys same p = any-map p r xs ∙ same (λ i. p (r i)) ∙ sym (any-map p r ys)

-- tests that are alike where something holds of each slot
pub any-alike : (P : ℕ → Type 0) (p q : ℕ → Bool) (os : List ℕ) → ((i : ℕ) → P i → p i ≡ q i) → AllByRecursion P os → list_any p os ≡ list_any q os
any-alike P p q [] so all = refl
any-alike P p q (o ∷ os) so all = λ i. so o all.0 i || any-alike P p q os so all.1 i

-- of those that pass a test, no fewer pass another that asks for it
pub filter-within : (p q : ℕ → Bool) (os : List ℕ) → ((i : ℕ) → p i ≡ true → q i ≡ true) → filter p (filter q os) ≡ filter p os
filter-within p q [] so = refl
filter-within p q (o ∷ os) so =
    elim (q o) as (λ b. q o ≡ b → filter p (cond b (o ∷ filter q os) (filter q os)) ≡ cond (p o) (o ∷ filter p os) (filter p os)) [
      | true ↦ λ _. ap (λ (t : List ℕ). cond (p o) (o ∷ t) t) (filter-within p q os so)
      | false ↦ λ e. filter-within p q os so ∙ ap (λ (b : Bool). cond b (o ∷ filter p os) (filter p os)) (sym (by_flag (λ b. b ≡ false) (p o) (λ t. absurd (true_false (sym (so o t) ∙ e))) (λ _. refl)))
    ] refl

-- a slot that is none of some slots is not taken out of them
pub absent-filter : (s : ℕ) (os : List ℕ) → list_any (eqb s) os ≡ false → filter (λ i. not (eqb s i)) os ≡ os
absent-filter s [] none = refl
absent-filter s (o ∷ os) none =
    by_flag (λ b. (b || list_any (eqb s) os) ≡ false → cond (not b) (o ∷ filter (λ i. not (eqb s i)) os) (filter (λ i. not (eqb s i)) os) ≡ o ∷ os) (eqb s o)
    (λ _ e. absurd (true_false e))
    (λ _ e. ap (λ (t : List ℕ). o ∷ t) (absent-filter s os e)) none

-- what holds of each slot of an order
pub all-to : (P Q : ℕ → Type 0) (os : List ℕ) → ((i : ℕ) → P i → Q i) → AllByRecursion P os → AllByRecursion Q os
all-to P Q [] so all = tt
all-to P Q (o ∷ os) so all = (so o all.0, all-to P Q os so all.1)

pub all-map : (P Q : ℕ → Type 0) (r : ℕ → ℕ) (os : List ℕ) → ((i : ℕ) → P i → Q (r i)) → AllByRecursion P os → AllByRecursion Q (map r os)
all-map P Q r [] so all = tt
all-map P Q r (o ∷ os) so all = (so o all.0, all-map P Q r os so all.1)

pub all-insert : (P : ℕ → Type 0) (n : ℕ) (os : List ℕ) (j : ℕ) → P n → AllByRecursion P os → AllByRecursion P (take j os ++ n ∷ drop j os)
all-insert P n os zero p all = (p, all)
all-insert P n [] (suc j) p all = (p, tt)
all-insert P n (o ∷ os) (suc j) p all = (all.0, all-insert P n os j p all.1)

-- the slots of an order that are not one
pub others-filter : (P : ℕ → Type 0) (s : ℕ) (os : List ℕ) → AllByRecursion P os → AllByRecursion (λ i. P i × (i ≢ s)) (filter (λ i. not (eqb s i)) os)
others-filter P s [] all = tt
others-filter P s (o ∷ os) all =
    by_flag (λ b. AllByRecursion (λ i. P i × (i ≢ s)) (cond (not b) (o ∷ filter (λ i. not (eqb s i)) os) (filter (λ i. not (eqb s i)) os))) (eqb s o)
    (λ _. others-filter P s os all.1)
    (λ e. ((all.0, λ same. true_false (sym ((Decides-eqb s o).1 (sym same)) ∙ e)), others-filter P s os all.1))

pub alike : {X : Type 0} (f h : ℕ → X) (P : ℕ → Type 0) (os : List ℕ) → ((i : ℕ) → P i → h i ≡ f i) → AllByRecursion P os → map h os ≡ map f os
alike f h P [] so all = refl
alike f h P (o ∷ os) so all = λ i. so o all.0 i ∷ alike f h P os so all.1 i

pub alike-moved : {X : Type 0} (f h : ℕ → X) (r : ℕ → ℕ) (P : ℕ → Type 0) (os : List ℕ) → ((i : ℕ) → P i → h (r i) ≡ f i) → AllByRecursion P os → map h (map r os) ≡ map f os
alike-moved f h r P [] so all = refl
alike-moved f h r P (o ∷ os) so all = λ i. so o all.0 i ∷ alike-moved f h r P os so all.1 i

pub map-insert : {X : Type 0} (f : ℕ → X) (os : List ℕ) (j n : ℕ) → map f (take j os ++ n ∷ drop j os) ≡ take j (map f os) ++ f n ∷ drop j (map f os)
map-insert f os j n = map-append f (take j os) (n ∷ drop j os) ∙ rw (take-map f j os, drop-map f j os) refl

pub map-remove : {X : Type 0} (f : ℕ → X) (os : List ℕ) (j : ℕ) → map f (take j os ++ drop (suc j) os) ≡ take j (map f os) ++ drop (suc j) (map f os)
map-remove f os j = map-append f (take j os) (drop (suc j) os) ∙ rw (take-map f j os, drop-map f (suc j) os) refl

-- one more slot
pub any-insert : (p : ℕ → Bool) (os : List ℕ) (j n : ℕ) → list_any p (take j os ++ n ∷ drop j os) ≡ (p n || list_any p os)
any-insert p os j n = sym (list_any-IsPermutation p (n ∷ os) (take j os ++ n ∷ drop j os) (IsPermutation-insert os j n))

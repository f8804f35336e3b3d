-- The steps of one walk along two lists in the order of their keys, that finds what is lost and what is touched.
use Rattle.std.proofs.Common.{◌≡◌, ℕ, ◌+◌, ◌<◌, Bool, true, false, cond, not, ◌||◌, List, [], ◌∷◌, ◌++◌, length, get_or, drop, map, append_assoc, refl, sym, ap, ◌∙◌, subst}
use Rattle.std.specs.declared.cmp.Ordering.TheVariants.{Less, Equal, Greater}
use Rattle.std.specs.Ordering.{nat_cmp, is_lt}
use Rattle.std.specs.Cmp.Lexicographic.{slice_cmp}
use Rattle.std.specs.Str.{bytes_eq}
use Rattle.std.specs.List.{filter, list_any, take_while}
use Rattle.std.proofs.lemmas.List.{map-append}
use Rattle.std.proofs.lemmas.List.Sums.{take_while-cons}
use Rattle.std.proofs.lemmas.Slice.Eq.{bytes_eq-Decides}
use Rattle.rv_base.specs.Sorted.{InOrder, without, Below}
use Rattle.rv_base.specs.PositionLaws.{Above, below_is, same_from, differs, differs_back, equals, above_chain, without_above, in_order-without}
use Rattle.rv_views.specs.Walks.{rest_from, begins_with}
use Rattle.rv_views.proofs.Merges.{drop_at_item, in_order-drop, rest_order, met, unmet, met_above, unmet_step}

-- what is kept takes one part more of what is ahead
carried : {X Y : Type 0} (f : X → Y) (kept all : List Y) (before front after : List X) → before ≡ front ++ after → kept ++ map f before ≡ all → (kept ++ map f front) ++ map f after ≡ all
carried {X} {Y} f kept all before front after e ahead =
    append_assoc kept (map f front) (map f after) ∙ ap (λ (t : List Y). kept ++ t) (sym (map-append f front after)) ∙ ap (λ (t : List X). kept ++ map f t) (sym e) ∙ ahead

-- one more item of the front
pub front_more : {X Y : Type 0} (p : X → Bool) (f : X → Y) (x : X) (xs : List X) (kept all : List Y) → p x ≡ true → kept ++ map f (take_while p (x ∷ xs)) ≡ all → (kept ++ f x ∷ []) ++ map f (take_while p xs) ≡ all
front_more {X} p f x xs kept all pass ahead = carried f kept all (take_while p (x ∷ xs)) (x ∷ []) (take_while p xs) (take_while-cons p x xs ∙ rw pass refl) ahead

-- nothing, or the item
map_unless : {X Y : Type 0} (f : X → Y) (b : Bool) (x : X) → map f (cond b [] (x ∷ [])) ≡ cond b [] (f x ∷ [])
map_unless f true x = refl
map_unless f false x = refl

unless_then : {X : Type 0} (b : Bool) (x : X) (xs : List X) → cond (not b) (x ∷ xs) xs ≡ cond b [] (x ∷ []) ++ xs
unless_then true x xs = refl
unless_then false x xs = refl

module _ {X : Type 0} (key : X → List ℕ) where
  -- the items of a list in order that are left after a walk past a key
  abbrev past : List ℕ → List X → List X
  past k ys = without key k (rest_from key k ys)

  -- where the first that is left has the key, the others have another
  past_is : (k : List ℕ) (ys : List X) → InOrder key ys → cond (begins_with (λ y. bytes_eq (key y) k) (rest_from key k ys)) (drop 1 (rest_from key k ys)) (rest_from key k ys) ≡ past k ys
  past_is k [] h = refl
  past_is k (y ∷ ys) h =
      elim (slice_cmp nat_cmp (key y) k) as (λ o. slice_cmp nat_cmp (key y) k ≡ o → let rest : List X = cond (is_lt o) (rest_from key k ys) (y ∷ ys) in cond (begins_with (λ y. bytes_eq (key y) k) rest) (drop 1 rest) rest ≡ without key k rest) [
        | Less ↦ λ e. past_is k ys h.1
        | Equal ↦ λ e. subst (λ (t : List ℕ). cond (bytes_eq (key y) t) ys (y ∷ ys) ≡ without key t (y ∷ ys)) (same_from (key y) k e) (rw (equals (key y)) (sym (without_above key (key y) ys h.0)))
        | Greater ↦ λ e. let low : Below k (key y) = below_is (key y) k e in rw (differs_back k (key y) low) (sym (without_above key k (y ∷ ys) (low, above_chain key k (key y) ys low h.0)))
      ] refl

  -- one step of the walk: x is the item at the place i of xs; rest are the items of ys whose keys are not below that of x,
  -- and next those of them that have another key
  pub record IsStep (xs ys rest next : List X) (i : ℕ) (x : X) : Type 0 where
    pub in_range : i < length xs
    pub item : x ≡ get_or xs i x
    pub order : InOrder key xs
    pub rest_order : InOrder key ys
    pub rest_is : rest ≡ rest_from key (key x) ys
    pub next_is : next ≡ cond (begins_with (λ y. bytes_eq (key y) (key x)) rest) (drop 1 rest) rest

  ahead_is : {xs ys rest next : List X} {i : ℕ} {x : X} → IsStep xs ys rest next i x → drop i xs ≡ x ∷ drop (i + 1) xs
  ahead_is {xs} {i = i} {x = x} s = drop_at_item xs i x s.in_range s.item

  ahead_order : {xs ys rest next : List X} {i : ℕ} {x : X} → IsStep xs ys rest next i x → InOrder key (x ∷ drop (i + 1) xs)
  ahead_order {xs} {i = i} s = subst (InOrder key) (ahead_is s) (in_order-drop key i xs s.order)

  next_past : {xs ys rest next : List X} {i : ℕ} {x : X} → IsStep xs ys rest next i x → next ≡ past (key x) ys
  next_past {ys = ys} {x = x} s = s.next_is ∙ rw (s.rest_is) (past_is (key x) ys s.rest_order)

  -- what is left stays in order
  pub next_order : {xs ys rest next : List X} {i : ℕ} {x : X} → IsStep xs ys rest next i x → InOrder key next
  next_order {ys = ys} {x = x} s = rw (next_past s) (in_order-without key (key x) (rest_from key (key x) ys) (rest_order key (key x) ys s.rest_order))

  -- the items of ys whose keys are not among those of xs
  abbrev lost : List X → List X → List X
  lost xs ys = filter (λ y. not (list_any (λ x. bytes_eq (key x) (key y)) xs)) ys

  -- the items below the key of x are lost
  lost_front : (x : X) (xs ys : List X) → InOrder key (x ∷ xs) → lost (x ∷ xs) ys ≡ take_while (λ y. is_lt (slice_cmp nat_cmp (key y) (key x))) ys ++ lost (x ∷ xs) (rest_from key (key x) ys)
  lost_front x xs [] h = refl
  lost_front x xs (y ∷ ys) h =
      rw (take_while-cons (λ y. is_lt (slice_cmp nat_cmp (key y) (key x))) y ys) (
      elim (slice_cmp nat_cmp (key y) (key x)) as (λ o. slice_cmp nat_cmp (key y) (key x) ≡ o → lost (x ∷ xs) (y ∷ ys) ≡ cond (is_lt o) (y ∷ take_while (λ y. is_lt (slice_cmp nat_cmp (key y) (key x))) ys) [] ++ lost (x ∷ xs) (cond (is_lt o) (rest_from key (key x) ys) (y ∷ ys))) [
        | Less ↦ λ e. rw (met_above key (λ x y. bytes_eq (key x) (key y)) (λ x y apart. apart) y (x ∷ xs) (e, above_chain key (key y) (key x) xs e h.0)) (ap (λ (t : List X). y ∷ t) (lost_front x xs ys h))
        | Equal ↦ λ e. refl
        | Greater ↦ λ e. refl
      ] refl)

  -- an item with the key of x is not, and the others are judged by what comes after x
  lost_past : (x : X) (xs ys : List X) → lost (x ∷ xs) ys ≡ lost xs (without key (key x) ys)
  lost_past x xs [] = refl
  lost_past x xs (y ∷ ys) =
      elim (bytes_eq (key x) (key y)) as (λ b. cond (not (b || list_any (λ x. bytes_eq (key x) (key y)) xs)) (y ∷ lost (x ∷ xs) ys) (lost (x ∷ xs) ys) ≡ lost xs (cond (not b) (y ∷ without key (key x) ys) (without key (key x) ys))) [
        | true ↦ lost_past x xs ys
        | false ↦ ap (λ (t : List X). cond (not (list_any (λ x. bytes_eq (key x) (key y)) xs)) (y ∷ t) t) (lost_past x xs ys)
      ]

  pub lost_step : {Y : Type 0} {xs ys rest next : List X} {i : ℕ} {x : X} (f : X → Y) (kept all : List Y) → IsStep xs ys rest next i x
      → kept ++ map f (lost (drop i xs) ys) ≡ all → (kept ++ map f (take_while (λ y. is_lt (slice_cmp nat_cmp (key y) (key x))) ys)) ++ map f (lost (drop (i + 1) xs) next) ≡ all
  lost_step {xs = xs} {ys = ys} {i = i} {x = x} f kept all s ahead =
      let front = take_while (λ y. is_lt (slice_cmp nat_cmp (key y) (key x))) ys in
      rw (next_past s) (carried f kept all (lost (drop i xs) ys) front (lost (drop (i + 1) xs) (past (key x) ys)) (
      rw (ahead_is s) (lost_front x (drop (i + 1) xs) ys (ahead_order s) ∙ ap (λ (t : List X). front ++ t) (lost_past x (drop (i + 1) xs) (rest_from key (key x) ys)))
      ) ahead)

  -- without an item to be among, all are lost
  pub lost_all : (ys : List X) → lost [] ys ≡ ys
  lost_all [] = refl
  lost_all (y ∷ ys) = ap (λ (t : List X). y ∷ t) (lost_all ys)

-- items that meet others with the same key alone
module _ {X : Type 0} (key : X → List ℕ) (meets : X → X → Bool) (apart : (y x : X) → bytes_eq (key y) (key x) ≡ false → meets y x ≡ false) where
  -- an item above a key is met by the same where the item with that key goes
  met_without : (k : List ℕ) (x : X) (ys : List X) → Below k (key x) → met key meets apart ys x ≡ met key meets apart (without key k ys) x
  met_without k x [] low = refl
  met_without k x (y ∷ ys) low =
      elim (bytes_eq k (key y)) as (λ b. bytes_eq k (key y) ≡ b → (meets y x || met key meets apart ys x) ≡ met key meets apart (cond (not b) (y ∷ without key k ys) (without key k ys)) x) [
        | true ↦ λ e. rw (apart y x (differs (key y) (key x) (subst (λ (t : List ℕ). Below t (key x)) ((bytes_eq-Decides k (key y)).0 e) low))) (met_without k x ys low)
        | false ↦ λ e. ap (λ (b : Bool). meets y x || b) (met_without k x ys low)
      ] refl

  unmet_without : (k : List ℕ) (xs ys : List X) → Above key k xs → unmet key meets apart ys xs ≡ unmet key meets apart (without key k ys) xs
  unmet_without k [] ys all = refl
  unmet_without k (x ∷ xs) ys all = rw (met_without k x ys all.0) (ap (λ (t : List X). cond (not (met key meets apart (without key k ys) x)) (x ∷ t) t) (unmet_without k xs ys all.1))

  -- the item is taken where the first that is left does not meet it
  pub touched_step : {Y : Type 0} {xs ys rest next : List X} {i : ℕ} {x : X} (f : X → Y) (kept all : List Y) → IsStep key xs ys rest next i x
      → kept ++ map f (unmet key meets apart ys (drop i xs)) ≡ all → (kept ++ cond (begins_with (λ y. meets y x) rest) [] (f x ∷ [])) ++ map f (unmet key meets apart next (drop (i + 1) xs)) ≡ all
  touched_step {xs = xs} {ys = ys} {i = i} {x = x} f kept all s ahead =
      let left = drop (i + 1) xs in
      let met_first = begins_with (λ y. meets y x) (rest_from key (key x) ys) in
      rw (next_past key s, s.rest_is, ← map_unless f met_first x) (carried f kept all (unmet key meets apart ys (drop i xs)) (cond met_first [] (x ∷ [])) (unmet key meets apart (past key (key x) ys) left) (
      rw (ahead_is key s, ← unmet_without (key x) left (rest_from key (key x) ys) (ahead_order key s).0) (unmet_step key meets apart x left ys (ahead_order key s) s.rest_order ∙ unless_then met_first x (unmet key meets apart (rest_from key (key x) ys) left))
      ) ahead)

-- Ids in the order of their bytes, each once: one more of those that are put in order, and how many there are.
use Rattle.std.proofs.Common.{◌≡◌, ℕ, suc, ◌+◌, ◌<◌, ◌≤◌, Bool, true, List, [], ◌∷◌, ◌++◌, length, get_or, take, sym, ap, ◌∙◌, subst, arith}
use Rattle.std.specs.declared.cmp.Ordering.TheVariants.{Less, Equal, Greater}
use Rattle.std.specs.Ordering.{nat_cmp, match_ordering}
use Rattle.std.specs.Cmp.Lexicographic.{slice_cmp}
use Rattle.std.specs.List.{fold, AllByRecursion}
use Rattle.std.proofs.lemmas.List.{take_more}
use Rattle.rv_base.specs.Sorted.{put_by, sorted_by, is_in_order}
use Rattle.rv_base.specs.RisingLaws.{in_order-from_test}
use Rattle.rv_base.specs.ArrangedLaws.{sorted-push}
use Rattle.rv_rows.specs.Extents.{AreLists}

abbrev pub id : List ℕ → List ℕ
id i = i

pub sorted_next : (ids : List (List ℕ)) (n : ℕ) (x : List ℕ) {y : List ℕ} {list new : List (List ℕ)} → n < length ids → x ≡ get_or ids n x → list ≡ sorted_by id (take n ids) → y ≡ x → new ≡ put_by id y list
    → new ≡ sorted_by id (take (n + 1) ids)
sorted_next ids n x lt is before same after =
    after ∙ (λ j. put_by id (same j) (before j)) ∙ sym (ap (sorted_by id) (take_more ids n x lt ∙ ap (λ (i : List ℕ). take n ids ++ i ∷ []) (sym is)) ∙ sorted-push id x (take n ids))

-- no more are in order than were given
put_count : (x : List ℕ) (xs : List (List ℕ)) → length (put_by id x xs) ≤ suc (length xs)
put_count x [] = omega arith
put_count x (y ∷ ys) =
    elim (slice_cmp nat_cmp x y) as (λ o. length (match_ordering o (x ∷ y ∷ ys) (x ∷ ys) (y ∷ put_by id x ys)) ≤ suc (suc (length ys))) [
      | Less ↦ omega arith
      | Equal ↦ omega arith
      | Greater ↦ omega (arith, put_count x ys)
    ]

count_after : (xs sorted : List (List ℕ)) → length (fold (λ s x. put_by id x s) sorted xs) ≤ length xs + length sorted
count_after [] sorted = omega arith
count_after (x ∷ xs) sorted = omega (arith, count_after xs (put_by id x sorted), put_count x sorted)

pub sorted_count : (xs : List (List ℕ)) → length (sorted_by id xs) ≤ length xs
sorted_count xs = omega (arith, count_after xs [])

-- what holds of the first of some ids and of the next holds of one more
pub all_next : (P : List ℕ → Type 0) (ids : List (List ℕ)) (n : ℕ) (x : List ℕ) → n < length ids → x ≡ get_or ids n x → P x → AllByRecursion P (take n ids) → AllByRecursion P (take (n + 1) ids)
all_next P ids n x lt is holds all =
    subst (AllByRecursion P) (sym (take_more ids n x lt ∙ ap (λ (i : List ℕ). take n ids ++ i ∷ []) (sym is))) (all_push (take n ids) all)
  where
    all_push : (xs : List (List ℕ)) → AllByRecursion P xs → AllByRecursion P (xs ++ x ∷ [])
    all_push [] all = (holds, tt)
    all_push (y ∷ ys) all = (all.0, all_push ys all.1)

-- ids that were tested as they stand are an extent's lists
pub exact_fits : (ids read items : List (List ℕ)) (b : Bool) → read ≡ ids → b ≡ is_in_order id read → b ≡ true → items ≡ ids → length ids ≤ 64 → AreLists items
exact_fits ids read items b read_are tested holds items_are few =
    subst AreLists (sym items_are) (in_order-from_test id ids (ap (is_in_order id) (sym read_are) ∙ sym tested ∙ holds), few)

-- In the order by sorts the first of the rows of a list has its greatest sort.
use Rattle.std.proofs.Common.{◌≡◌, ℕ, ◌≤◌, Bool, false, cond, ◌||◌, List, [], ◌∷◌, Some, None, slice_get, drop, length, map, refl, sym, ap, ◌∙◌, subst, nat_lt, arith}
use Rattle.std.specs.Prelude.{fold}
use Rattle.std.specs.Str.{bytes_eq}
use Rattle.std.specs.List.{filter, list_any, AllByRecursion}
use Rattle.std.proofs.lemmas.Bool.Decides.{nat_tests}
use Rattle.std.proofs.lemmas.Slice.Eq.{bytes_eq-Decides}
use Rattle.std.proofs.lemmas.Option.{none-some, same_Some}
use Rattle.rv_base.specs.Sorted.{InOrder}
use Rattle.rv_base.specs.PositionLaws.{Above}
use Rattle.rv_rows.specs.declared.row.Row.{Row}
use Rattle.rv_rows.specs.declared.row.Row.TheVariants as variants
use Rattle.rv_rows.specs.declared.filing.Filing.TheVariants as filings
use Rattle.rv_rows.specs.Held.{Stored, rows_in}
use Rattle.rv_rows.specs.Filed.{sort_of, under, filed_key}
use Rattle.rv_rows.specs.Slots.{row_of, standing, is_under, AreSame, IsFiled}
use Rattle.rv_rows.specs.Effects.{greater_sort, greatest_sort, sort_in}
use Rattle.rv_rows.specs.EffectLaws.{greatest_sort-same}
use Rattle.rv_rows.proofs.FiledLaws.{sort-falls}
use Rattle.rv_rows.proofs.FiledSlots.{all_under, filed_under, filter-standing, own_slots}
use Rattle.rv_rows.proofs.SlotLaws.{by_flag}

-- what stands first, and that nothing does
pub first_get : (xs : List ℕ) (x : ℕ) → slice_get xs 0 ≡ Some x → xs ≡ x ∷ drop 1 xs
first_get [] x e = absurd (none-some x e)
first_get (y ∷ xs) x e = λ i. same_Some y x e i ∷ xs

pub nothing_get : (xs : List ℕ) → slice_get xs 0 ≡ None → xs ≡ []
nothing_get [] e = refl
nothing_get (y ∷ xs) e = absurd (none-some y (sym e))

-- a row's sort in its own list, and in another
own_sort : (list : List ℕ) (row : Row) → under filings.Sort row ≡ list → sort_in list row ≡ sort_of row
own_sort list (variants.Extent row) e = refl
own_sort list (variants.List row) e = refl
own_sort list (variants.Share row) e = refl
own_sort list (variants.Todo row) e = ap (λ (b : Bool). cond b row.sort 0) ((bytes_eq-Decides row.list list).1 e)

no_sort : (list : List ℕ) (row : Row) → bytes_eq (under filings.Sort row) list ≡ false → sort_in list row ≡ 0
no_sort list (variants.Extent row) e = refl
no_sort list (variants.List row) e = refl
no_sort list (variants.Share row) e = refl
no_sort list (variants.Todo row) e = ap (λ (b : Bool). cond b row.sort 0) e

not_greater : (most sort : ℕ) → sort ≤ most → cond (nat_lt most sort) sort most ≡ most
not_greater most sort le = grind (arith, nat_tests)

at_least_zero : (sort : ℕ) → cond (nat_lt 0 sort) sort 0 ≡ sort
at_least_zero sort = grind (arith, nat_tests)

-- the rows of other lists tell nothing
own_rows : (list : List ℕ) (most : ℕ) (stored : List Stored) → fold (greater_sort list) most (rows_in (filter (λ s. bytes_eq (under filings.Sort s.0) list) stored)) ≡ fold (greater_sort list) most (rows_in stored)
own_rows list most [] = refl
own_rows list most (s ∷ stored) =
    by_flag (λ b. fold (greater_sort list) most (rows_in (cond b (s ∷ filter (λ s. bytes_eq (under filings.Sort s.0) list) stored) (filter (λ s. bytes_eq (under filings.Sort s.0) list) stored))) ≡ fold (greater_sort list) (greater_sort list most s.0) (rows_in stored)) (bytes_eq (under filings.Sort s.0) list)
    (λ e. own_rows list (greater_sort list most s.0) stored)
    (λ e. own_rows list most stored ∙ ap (λ (n : ℕ). fold (greater_sort list) n (rows_in stored)) (sym (not_greater most (sort_in list s.0) (subst (λ (n : ℕ). n ≤ most) (sym (no_sort list s.0 e)) (omega arith)))))

module _ (list : List ℕ) (f : ℕ → Stored) where
  none_greater : (most : ℕ) (os : List ℕ) → AllByRecursion (λ i. sort_in list (f i).0 ≤ most) os → fold (greater_sort list) most (rows_in (map f os)) ≡ most
  none_greater most [] all = refl
  none_greater most (i ∷ os) all = ap (λ (n : ℕ). fold (greater_sort list) n (rows_in (map f os))) (not_greater most (sort_in list (f i).0) all.0) ∙ none_greater most os all.1

  later_sorts : (s : ℕ) (os : List ℕ) → under filings.Sort (f s).0 ≡ list → AllByRecursion (λ i. under filings.Sort (f i).0 ≡ list) os → Above (λ i. filed_key filings.Sort (f i)) (filed_key filings.Sort (f s)) os → AllByRecursion (λ i. sort_in list (f i).0 ≤ sort_of (f s).0) os
  later_sorts s [] own all above = tt
  later_sorts s (i ∷ os) own all above =
      (subst (λ (n : ℕ). n ≤ sort_of (f s).0) (sym (own_sort list (f i).0 all.0)) (sort-falls (f s).0 (f i).0 (own ∙ sym all.0) above.0), later_sorts s os own all.1 above.1)

  first_sort : (s : ℕ) (os : List ℕ) → AllByRecursion (λ i. under filings.Sort (f i).0 ≡ list) (s ∷ os) → InOrder (λ i. filed_key filings.Sort (f i)) (s ∷ os) → greatest_sort list (rows_in (map f (s ∷ os))) ≡ sort_of (f s).0
  first_sort s os all sorted =
      ap (λ (n : ℕ). fold (greater_sort list) n (rows_in (map f os))) (at_least_zero (sort_in list (f s).0) ∙ own_sort list (f s).0 all.0)
      ∙ none_greater (sort_of (f s).0) os (later_sorts s os all.0 all.1 sorted.0)

any-rows : (test : Row → Bool) (slots : List Stored) (os : List ℕ) → list_any test (rows_in (standing slots os)) ≡ list_any (λ i. test (row_of slots i).0) os
any-rows test slots [] = refl
any-rows test slots (i ∷ os) = ap (λ (b : Bool). test (row_of slots i).0 || b) (any-rows test slots os)

same_greatest : (list : List ℕ) (slots : List Stored) (by_key order : List ℕ) → AreSame by_key order → greatest_sort list (rows_in (standing slots order)) ≡ greatest_sort list (rows_in (standing slots by_key))
same_greatest list slots by_key order same =
    greatest_sort-same list (rows_in (standing slots order)) (rows_in (standing slots by_key)) (λ test. any-rows test slots order ∙ sym (same (λ i. test (row_of slots i).0)) ∙ sym (any-rows test slots by_key))

-- the greatest sort of a list is that of the rows that are found under it
greatest_found : (slots : List Stored) (by_key order found : List ℕ) (list : List ℕ) → 1 ≤ length list → IsFiled filings.Sort slots by_key order → filter (is_under filings.Sort list slots) order ≡ found
    → greatest_sort list (rows_in (standing slots found)) ≡ greatest_sort list (rows_in (standing slots by_key))
greatest_found slots by_key order found list some is found_is =
    ap (λ (os : List ℕ). greatest_sort list (rows_in (standing slots os))) (sym found_is)
    ∙ sym (same_greatest list slots (filter (is_under filings.Sort list slots) order) (filter (is_under filings.Sort list slots) by_key) (own_slots filings.Sort slots by_key order list some is.same))
    ∙ ap (λ (stored : List Stored). greatest_sort list (rows_in stored)) (sym (filter-standing (λ s. bytes_eq (under filings.Sort s.0) list) slots by_key))
    ∙ own_rows list 0 (standing slots by_key)

-- none is found
pub greatest_none : (slots : List Stored) (by_key order : List ℕ) (list : List ℕ) → 1 ≤ length list → IsFiled filings.Sort slots by_key order → filter (is_under filings.Sort list slots) order ≡ [] → 0 ≡ greatest_sort list (rows_in (standing slots by_key))
greatest_none slots by_key order list some is found_is = greatest_found slots by_key order [] list some is found_is

-- the first that is found
pub greatest_first : (slots : List Stored) (by_key order : List ℕ) (s : ℕ) (rest : List ℕ) (list : List ℕ) → 1 ≤ length list → IsFiled filings.Sort slots by_key order → filter (is_under filings.Sort list slots) order ≡ s ∷ rest
    → sort_of (row_of slots s).0 ≡ greatest_sort list (rows_in (standing slots by_key))
greatest_first slots by_key order s rest list some is found_is =
    let all : AllByRecursion (λ i. under filings.Sort (row_of slots i).0 ≡ list) (s ∷ rest) = subst (AllByRecursion (λ i. under filings.Sort (row_of slots i).0 ≡ list)) found_is (all_under filings.Sort list slots order) in
    let sorted : InOrder (λ i. filed_key filings.Sort (row_of slots i)) (s ∷ rest) = subst (InOrder (λ i. filed_key filings.Sort (row_of slots i))) found_is (filed_under filings.Sort slots order list is.in_order) in
    sym (first_sort list (row_of slots) s rest all sorted) ∙ greatest_found slots by_key order (s ∷ rest) list some is found_is

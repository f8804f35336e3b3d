-- Texts for what rows are filed under and for what comes then stand to each other as what the rows are filed under, and where
-- that is the same as what comes then.
use Rattle.std.proofs.Common.{◌≡◌, ℕ, zero, suc, ◌≤◌, false, ◌∷◌, ◌++◌, List, [], length, refl, sym, ap, ◌∙◌, subst, arith}
use Rattle.std.specs.Str.{bytes_eq}
use Rattle.std.specs.declared.cmp.Ordering.{Ordering}
use Rattle.std.specs.declared.cmp.Ordering.TheVariants.{Less, Equal, Greater}
use Rattle.std.specs.Ordering.{nat_cmp, match_ordering, ordering_then}
use Rattle.std.specs.Cmp.Lexicographic.{slice_cmp}
use Rattle.std.proofs.lemmas.Bool.Decides.{nat_tests}
use Rattle.std.proofs.lemmas.Cmp.{nat_list_cmp_total, tied_itself}
use Rattle.rv_base.specs.PositionLaws.{same_from}
use Rattle.rv_base.specs.Sorted.{Below}
use Rattle.rv_rows.specs.declared.filing.Filing.{Filing}
use Rattle.rv_rows.specs.declared.filing.Filing.TheVariants as filings
use Rattle.rv_rows.specs.declared.row.Row.{Row}
use Rattle.rv_rows.specs.declared.row.Row.TheVariants as variants
use Rattle.rv_rows.specs.Keys.{row_text}
use Rattle.rv_rows.specs.Sharing.{belongs}
use Rattle.rv_rows.specs.Filed.{filed, under, falling, sort_of, then_by, filed_text}

lowest : (y : ℕ) → nat_cmp 0 (suc y) ≡ Less
lowest y = grind (arith, nat_tests)

not_lowest : (x : ℕ) → nat_cmp (suc x) 0 ≡ Greater
not_lowest x = grind (arith, nat_tests)

raised : (x y : ℕ) → nat_cmp (suc x) (suc y) ≡ nat_cmp x y
raised x y = grind (arith, nat_tests)

regrouped : (o p q : Ordering) → ordering_then o (match_ordering p Less q Greater) ≡ match_ordering (ordering_then o p) Less q Greater
regrouped Less p q = refl
regrouped Equal p q = refl
regrouped Greater p q = refl

-- first by what they are filed under, then by what comes then
pub filed-cmp : (a b s t : List ℕ) → slice_cmp nat_cmp (filed a s) (filed b t) ≡ match_ordering (slice_cmp nat_cmp a b) Less (slice_cmp nat_cmp s t) Greater
filed-cmp [] [] s t = refl
filed-cmp [] (y ∷ b) s t = ap (λ (o : Ordering). ordering_then o (slice_cmp nat_cmp s (filed b t))) (lowest y)
filed-cmp (x ∷ a) [] s t = ap (λ (o : Ordering). ordering_then o (slice_cmp nat_cmp (filed a s) t)) (not_lowest x)
filed-cmp (x ∷ a) (y ∷ b) s t =
    ap (λ (o : Ordering). ordering_then o (slice_cmp nat_cmp (filed a s) (filed b t))) (raised x y)
    ∙ ap (λ (o : Ordering). ordering_then (nat_cmp x y) o) (filed-cmp a b s t)
    ∙ regrouped (nat_cmp x y) (slice_cmp nat_cmp a b) (slice_cmp nat_cmp s t)

-- under one text, as what comes then
pub filed-below : (a s t : List ℕ) → Below s t → Below (filed a s) (filed a t)
filed-below a s t h = filed-cmp a a s t ∙ ap (λ (o : Ordering). match_ordering o Less (slice_cmp nat_cmp s t) Greater) (tied_itself nat_list_cmp_total a) ∙ h

tied_keys : (o p : Ordering) → match_ordering o Less p Greater ≡ Equal → p ≡ Equal
tied_keys Less p e = absurd (cc)
tied_keys Equal p e = e
tied_keys Greater p e = absurd (cc)

-- the same text is of the same that comes then
filed-then : (a b s t : List ℕ) → filed a s ≡ filed b t → s ≡ t
filed-then a b s t e =
    same_from s t (tied_keys (slice_cmp nat_cmp a b) (slice_cmp nat_cmp s t) (sym (filed-cmp a b s t) ∙ ap (λ (l : List ℕ). slice_cmp nat_cmp l (filed b t)) e ∙ tied_itself nat_list_cmp_total (filed b t)))

not_above : (o p : Ordering) → match_ordering o Less p Greater ≡ Less → o ≡ Greater → Less ≡ Greater
not_above o p e f = sym e ∙ ap (λ (o : Ordering). match_ordering o Less p Greater) f

-- a text is below another only where what it is filed under is not above the other
pub filed-rises : (a b s t : List ℕ) → Below (filed a s) (filed b t) → slice_cmp nat_cmp a b ≡ Greater → Less ≡ Greater
filed-rises a b s t h e = not_above (slice_cmp nat_cmp a b) (slice_cmp nat_cmp s t) (sym (filed-cmp a b s t) ∙ h) e

-- of two sorts the greater comes before, and of one sort what follows tells
pub falling-cmp : (s t : ℕ) (k l : List ℕ) → slice_cmp nat_cmp (falling s ++ k) (falling t ++ l) ≡ ordering_then (nat_cmp t s) (slice_cmp nat_cmp k l)
falling-cmp zero zero k l = refl
falling-cmp zero (suc t) k l = ap (λ (o : Ordering). ordering_then o (slice_cmp nat_cmp k l)) (sym (not_lowest t))
falling-cmp (suc s) zero k l = ap (λ (o : Ordering). ordering_then o (slice_cmp nat_cmp k l)) (sym (lowest s))
falling-cmp (suc s) (suc t) k l = falling-cmp s t k l ∙ ap (λ (o : Ordering). ordering_then o (slice_cmp nat_cmp k l)) (sym (raised t s))

second_equal : (o p : Ordering) → ordering_then o p ≡ Equal → p ≡ Equal
second_equal Less p e = absurd (cc)
second_equal Equal p e = e
second_equal Greater p e = absurd (cc)

falling-then : (s t : ℕ) (k l : List ℕ) → falling s ++ k ≡ falling t ++ l → k ≡ l
falling-then s t k l e =
    same_from k l (second_equal (nat_cmp t s) (slice_cmp nat_cmp k l) (sym (falling-cmp s t k l) ∙ ap (λ (m : List ℕ). slice_cmp nat_cmp m (falling t ++ l)) e ∙ tied_itself nat_list_cmp_total (falling t ++ l)))

then-key : (by : Filing) (row other : Row) → then_by by row ≡ then_by by other → row_text row ≡ row_text other
then-key filings.List row other e = e
then-key filings.User row other e = e
then-key filings.Sort row other e = falling-then (sort_of row) (sort_of other) (row_text row) (row_text other) e

-- rows with one text have one key
pub filed-key : (by : Filing) (row other : Row) → filed_text by row ≡ filed_text by other → row_text row ≡ row_text other
filed-key by row other e = then-key by row other (filed-then (under by row) (under by other) (then_by by row) (then_by by other) e)

below-then : (a s t : List ℕ) → Below (filed a s) (filed a t) → Below s t
below-then a s t h = sym (ap (λ (o : Ordering). match_ordering o Less (slice_cmp nat_cmp s t) Greater) (tied_itself nat_list_cmp_total a)) ∙ sym (filed-cmp a a s t) ∙ h

no_greater : (s t : ℕ) (o p : Ordering) → nat_cmp t s ≡ o → ordering_then o p ≡ Less → t ≤ s
no_greater s t Less p e h = grind (arith, nat_tests)
no_greater s t Equal p e h = grind (arith, nat_tests)
no_greater s t Greater p e h = absurd (cc)

-- of two rows of a list in the order by sorts, the later has no greater sort
pub sort-falls : (row other : Row) → under filings.Sort row ≡ under filings.Sort other → Below (filed_text filings.Sort row) (filed_text filings.Sort other) → sort_of other ≤ sort_of row
sort-falls row other e h =
    let low : Below (then_by filings.Sort row) (then_by filings.Sort other) = below-then (under filings.Sort other) (then_by filings.Sort row) (then_by filings.Sort other) (subst (λ (l : List ℕ). Below (filed l (then_by filings.Sort row)) (filed_text filings.Sort other)) e h) in
    no_greater (sort_of row) (sort_of other) (nat_cmp (sort_of other) (sort_of row)) (slice_cmp nat_cmp (row_text row) (row_text other)) refl (sym (falling-cmp (sort_of row) (sort_of other) (row_text row) (row_text other)) ∙ low)

-- the empty text is no list's id
no_id : (list : List ℕ) → 1 ≤ length list → bytes_eq [] list ≡ false
no_id [] some = absurd (omega arith)
no_id (x ∷ list) some = refl

-- a row is filed under a list where it belongs to it
pub filed_belongs : (list : List ℕ) → 1 ≤ length list → (row : Row) → bytes_eq (under filings.List row) list ≡ belongs list row
filed_belongs list some (variants.Extent row) = no_id list some
filed_belongs list some (variants.List row) = refl
filed_belongs list some (variants.Share row) = refl
filed_belongs list some (variants.Todo row) = refl

-- Laws of rows that are gathered from several lists.
use Rattle.std.proofs.Common.{take, ◌⊎◌, inl, inr, ◌≡◌, ℕ, zero, suc, ◌+◌, ◌<◌, ◌≤◌, Bool, true, false, cond, ◌||◌, List, [], ◌∷◌, ◌++◌, length, get_or, drop, Option, Some, None, refl, sym, ap, ◌∙◌, subst, arith, add-one, append_assoc, append-nil}
use Rattle.std.specs.declared.cmp.Ordering.{Ordering}
use Rattle.std.specs.declared.cmp.Ordering.TheVariants.{Less, Equal, Greater}
use Rattle.std.specs.Ordering.{nat_cmp, ordering_reverse}
use Rattle.std.specs.Cmp.Lexicographic.{slice_cmp}
use Rattle.std.specs.List.{filter, list_any}
use Rattle.std.specs.Option.{option_map_or}
use Rattle.std.specs.Str.{bytes_eq}
use Rattle.std.specs.Borrow.{Bor}
use Rattle.std.proofs.lemmas.Cmp.{nat_list_cmp_total, tied_itself}
use Rattle.rv_base.specs.PositionLaws.{Above, above_chain, in_order-filter}
use Rattle.rv_base.specs.Sorted.{Below}
use Rattle.rv_base.specs.ArrangedLaws.{sorted-in_order}
use Rattle.rv_rows.specs.declared.key.Kind.{Kind}
use Rattle.rv_rows.specs.declared.row.Row.{Row}
use Rattle.rv_rows.specs.Keys.{key_text, row_key, row_text}
use Rattle.rv_rows.specs.Held.{Stored, AreRows, stored_key, put}
use Rattle.rv_rows.specs.Sharing.{belongs, list_of, list_passes}
use Rattle.rv_sharing.specs.Gathered.{rows_at, merged}

above_is : (a b : List ℕ) → Below a b → slice_cmp nat_cmp b a ≡ Greater
above_is a b h = nat_list_cmp_total.antisymm b a ∙ ap ordering_reverse h

below_is : (a b : List ℕ) → slice_cmp nat_cmp a b ≡ Greater → Below b a
below_is a b h = nat_list_cmp_total.antisymm b a ∙ ap ordering_reverse h

-- a row that is below all that are put stays first
stays_first : (x : Stored) (xs zs : List Stored) → Above stored_key (stored_key x) xs → merged xs (x ∷ zs) ≡ x ∷ merged xs zs
stays_first x [] zs all = refl
stays_first x (y ∷ ys) zs all = rw (above_is (stored_key x) (stored_key y) all.0) (stays_first x ys (put y zs) all.1)

merged_less : (x y : Stored) (xs ys : List Stored) → Above stored_key (stored_key x) xs → slice_cmp nat_cmp (stored_key x) (stored_key y) ≡ Less → merged (x ∷ xs) (y ∷ ys) ≡ x ∷ merged xs (y ∷ ys)
merged_less x y xs ys all e = rw e (stays_first x xs (y ∷ ys) all)

merged_tied : (x y : Stored) (xs ys : List Stored) → Above stored_key (stored_key x) xs → slice_cmp nat_cmp (stored_key x) (stored_key y) ≡ Equal → merged (x ∷ xs) (y ∷ ys) ≡ x ∷ merged xs ys
merged_tied x y xs ys all e = rw e (stays_first x xs ys all)

merged_more : (x y : Stored) (xs ys : List Stored) → Above stored_key (stored_key x) xs → slice_cmp nat_cmp (stored_key x) (stored_key y) ≡ Greater → merged (x ∷ xs) (y ∷ ys) ≡ y ∷ merged (x ∷ xs) ys
merged_more x y xs ys all e = rw e (stays_first y xs (put x ys) (above_chain stored_key (stored_key y) (stored_key x) xs (below_is (stored_key x) (stored_key y) e) all))

-- with nothing on the right
merged_alone : (xs : List Stored) → AreRows xs → merged xs [] ≡ xs
merged_alone xs h = sorted-in_order stored_key xs h

-- the rows of a list in order that pass one test, merged with those that pass another, are those that pass either
pub merged-filter : (p q : Stored → Bool) (xs : List Stored) → AreRows xs → merged (filter p xs) (filter q xs) ≡ filter (λ s. p s || q s) xs
merged-filter p q [] h = refl
merged-filter p q (x ∷ xs) h =
    elim (p x) as (λ b. merged (cond b (x ∷ filter p xs) (filter p xs)) (cond (q x) (x ∷ filter q xs) (filter q xs)) ≡ cond (b || q x) (x ∷ filter (λ s. p s || q s) xs) (filter (λ s. p s || q s) xs)) [
      | true ↦ elim (q x) as (λ c. merged (x ∷ filter p xs) (cond c (x ∷ filter q xs) (filter q xs)) ≡ x ∷ filter (λ s. p s || q s) xs) [
        | true ↦ merged_tied x x (filter p xs) (filter q xs) (above p xs h.0) (tied_itself nat_list_cmp_total (stored_key x)) ∙ ap (λ (t : List Stored). x ∷ t) (merged-filter p q xs h.1)
        | false ↦ begins x (filter p xs) (filter q xs) (above p xs h.0) (above q xs h.0) ∙ ap (λ (t : List Stored). x ∷ t) (merged-filter p q xs h.1)
      ]
      | false ↦ elim (q x) as (λ c. merged (filter p xs) (cond c (x ∷ filter q xs) (filter q xs)) ≡ cond c (x ∷ filter (λ s. p s || q s) xs) (filter (λ s. p s || q s) xs)) [
        | true ↦ stays_first x (filter p xs) (filter q xs) (above p xs h.0) ∙ ap (λ (t : List Stored). x ∷ t) (merged-filter p q xs h.1)
        | false ↦ merged-filter p q xs h.1
      ]
    ]
  where
    above : (r : Stored → Bool) (ys : List Stored) → Above stored_key (stored_key x) ys → Above stored_key (stored_key x) (filter r ys)
    above r [] all = tt
    above r (y ∷ ys) all = elim (r y) as (λ b. Above stored_key (stored_key x) (cond b (y ∷ filter r ys) (filter r ys))) [ true ↦ (all.0, above r ys all.1) | false ↦ above r ys all.1 ]

    begins : (x : Stored) (xs ys : List Stored) → Above stored_key (stored_key x) xs → Above stored_key (stored_key x) ys → merged (x ∷ xs) ys ≡ x ∷ merged xs ys
    begins x xs [] all low = stays_first x xs [] all
    begins x xs (y ∷ ys) all low = merged_less x y xs ys all low.0

-- rows behind references
abbrev pub Item : Type 0
Item = Bor Row × ℕ

abbrev row_at : Item → Stored
row_at item = (item.0.now, item.1)

next : (xs : List Item) (i : ℕ) (x : Item) → i < length xs → x ≡ get_or xs i x → drop i xs ≡ x ∷ drop (suc i) xs
next [] i x lt is = absurd (omega arith)
next (y ∷ ys) zero x lt is = λ k. sym is k ∷ ys
next (y ∷ ys) (suc i) x lt is = next ys i x (omega arith) is

rest_in_order : (i : ℕ) (xs : List Item) → AreRows (rows_at xs) → AreRows (rows_at (drop i xs))
rest_in_order zero xs h = h
rest_in_order (suc i) [] h = tt
rest_in_order (suc i) (x ∷ xs) h = rest_in_order i xs h.1

-- the rows so far, with what is left of both merged, are both merged
pub record Merging (left right : List Item) (i j : ℕ) (rows : List Item) : Type 0 where
  pub left_in : i ≤ length left
  pub right_in : j ≤ length right
  pub so_far : rows_at rows ++ merged (rows_at (drop i left)) (rows_at (drop j right)) ≡ merged (rows_at left) (rows_at right)

rows_at-push : (rows : List Item) (x : Item) → rows_at (rows ++ x ∷ []) ≡ rows_at rows ++ row_at x ∷ []
rows_at-push [] x = refl
rows_at-push (y ∷ ys) x = ap (λ (t : List Stored). row_at y ∷ t) (rows_at-push ys x)

rows_at-append : (rows more : List Item) → rows_at (rows ++ more) ≡ rows_at rows ++ rows_at more
rows_at-append [] more = refl
rows_at-append (y ∷ ys) more = ap (λ (t : List Stored). row_at y ∷ t) (rows_at-append ys more)

-- one more row, the first of what both make
pushes : (rows new : List Item) (x : Item) (rest all before : List Stored) → new ≡ rows ++ x ∷ [] → before ≡ row_at x ∷ rest → rows_at rows ++ before ≡ all → rows_at new ++ rest ≡ all
pushes rows new x rest all before new_is first so_far =
    ap (λ (t : List Item). rows_at t ++ rest) new_is ∙ ap (λ (t : List Stored). t ++ rest) (rows_at-push rows x) ∙ append_assoc (rows_at rows) (row_at x ∷ []) rest ∙ ap (λ (t : List Stored). rows_at rows ++ t) (sym first) ∙ so_far

module _ (left right : List Item) (i j : ℕ) (rows new : List Item) (one other : Item) (left_order : AreRows (rows_at left)) (right_order : AreRows (rows_at right))
    (i_in : i < length left) (j_in : j < length right) (one_is : one ≡ get_or left i one) (other_is : other ≡ get_or right j other) (merging : Merging left right i j rows) where
  heads : merged (rows_at (drop i left)) (rows_at (drop j right)) ≡ merged (row_at one ∷ rows_at (drop (suc i) left)) (row_at other ∷ rows_at (drop (suc j) right))
  heads = λ k. merged (rows_at (next left i one i_in one_is k)) (rows_at (next right j other j_in other_is k))

  low : Above stored_key (stored_key (row_at one)) (rows_at (drop (suc i) left))
  low = (subst (λ (xs : List Item). AreRows (rows_at xs)) (next left i one i_in one_is) (rest_in_order i left left_order)).0

  pub merging_less : new ≡ rows ++ one ∷ [] → slice_cmp nat_cmp (stored_key (row_at one)) (stored_key (row_at other)) ≡ Less → Merging left right (i + 1) j new
  merging_less new_is e =
      rw add-one (record {
        left_in = omega arith;
        right_in = omega arith;
        so_far = pushes rows new one (merged (rows_at (drop (suc i) left)) (rows_at (drop j right))) (merged (rows_at left) (rows_at right)) (merged (rows_at (drop i left)) (rows_at (drop j right))) new_is
            (heads ∙ merged_less (row_at one) (row_at other) (rows_at (drop (suc i) left)) (rows_at (drop (suc j) right)) low e ∙ (λ k. row_at one ∷ merged (rows_at (drop (suc i) left)) (rows_at (sym (next right j other j_in other_is) k)))) merging.so_far;
      })

  pub merging_tied : new ≡ rows ++ one ∷ [] → slice_cmp nat_cmp (stored_key (row_at one)) (stored_key (row_at other)) ≡ Equal → Merging left right (i + 1) (j + 1) new
  merging_tied new_is e =
      rw (add-one i, add-one j) (record {
        left_in = omega arith;
        right_in = omega arith;
        so_far = pushes rows new one (merged (rows_at (drop (suc i) left)) (rows_at (drop (suc j) right))) (merged (rows_at left) (rows_at right)) (merged (rows_at (drop i left)) (rows_at (drop j right))) new_is
            (heads ∙ merged_tied (row_at one) (row_at other) (rows_at (drop (suc i) left)) (rows_at (drop (suc j) right)) low e) merging.so_far;
      })

  pub merging_more : new ≡ rows ++ other ∷ [] → slice_cmp nat_cmp (stored_key (row_at one)) (stored_key (row_at other)) ≡ Greater → Merging left right i (j + 1) new
  merging_more new_is e =
      rw add-one (record {
        left_in = omega arith;
        right_in = omega arith;
        so_far = pushes rows new other (merged (rows_at (drop i left)) (rows_at (drop (suc j) right))) (merged (rows_at left) (rows_at right)) (merged (rows_at (drop i left)) (rows_at (drop j right))) new_is
            (heads ∙ merged_more (row_at one) (row_at other) (rows_at (drop (suc i) left)) (rows_at (drop (suc j) right)) low e ∙ (λ k. row_at other ∷ merged (rows_at (sym (next left i one i_in one_is) k)) (rows_at (drop (suc j) right)))) merging.so_far;
      })

-- at the end of one of them the rest of both follows
past_end : (i : ℕ) (xs : List Item) → length xs ≤ i → drop i xs ≡ []
past_end zero [] le = refl
past_end (suc i) [] le = refl
past_end zero (x ∷ xs) le = absurd (omega arith)
past_end (suc i) (x ∷ xs) le = past_end i xs (omega arith)

pub merging_ends : (left right : List Item) (i j : ℕ) (rows new last : List Item) → AreRows (rows_at left) → (length left ≤ i) ⊎ (length right ≤ j) → new ≡ rows ++ drop i left → last ≡ new ++ drop j right → Merging left right i j rows → rows_at last ≡ merged (rows_at left) (rows_at right)
merging_ends left right i j rows new last order over new_is last_is merging =
    ap rows_at last_is ∙ rows_at-append new (drop j right) ∙ ap (λ (t : List Item). rows_at t ++ rows_at (drop j right)) new_is
    ∙ ap (λ (t : List Stored). t ++ rows_at (drop j right)) (rows_at-append rows (drop i left)) ∙ append_assoc (rows_at rows) (rows_at (drop i left)) (rows_at (drop j right))
    ∙ ap (λ (t : List Stored). rows_at rows ++ t) (ends over) ∙ merging.so_far
  where
    ends : (length left ≤ i) ⊎ (length right ≤ j) → rows_at (drop i left) ++ rows_at (drop j right) ≡ merged (rows_at (drop i left)) (rows_at (drop j right))
    ends (inl le) = rw (past_end i left le) refl
    ends (inr le) = rw (past_end j right le) (append-nil (rows_at (drop i left)) ∙ sym (merged_alone (rows_at (drop i left)) (rest_in_order i left order)))

-- how a row stands to another, where it was compared with the kind and the id of the other's key
pub compared : (one other : Row) (kind : Kind) (id : List ℕ) (o p : Ordering) → kind ≡ (row_key other).kind → id ≡ (row_key other).id → o ≡ slice_cmp nat_cmp (row_text one) (key_text (record { kind = kind; id = id })) → o ≡ p
    → slice_cmp nat_cmp (row_text one) (row_text other) ≡ p
compared one other kind id o p kind_is id_is told is = (λ k. slice_cmp nat_cmp (row_text one) (key_text (record { kind = sym kind_is k; id = sym id_is k }))) ∙ sym told ∙ is

-- the rows of a list so far, with those that are left, are all of it
pub collected : (rows new : List Item) (x : Item) (rest before all : List Stored) → new ≡ rows ++ x ∷ [] → before ≡ (x.0.now, x.1) ∷ rest → rows_at rows ++ before ≡ all → rows_at new ++ rest ≡ all
collected rows new x rest before all new_is first so_far = pushes rows new x rest all before new_is first so_far

-- a row belongs to one of some lists exactly where it has a list that is one of them
pub among_passes : (lists : List (List ℕ)) (row : Row) → list_any (λ list. belongs list row) lists ≡ list_passes (λ text. list_any (bytes_eq text) lists) row
among_passes lists row = each (list_of row)
  where
    nothing : (lists : List (List ℕ)) → list_any (λ list. false) lists ≡ false
    nothing [] = refl
    nothing (l ∷ ls) = nothing ls

    each : (o : Option (List ℕ)) → list_any (λ list. option_map_or (λ text. bytes_eq text list) o false) lists ≡ option_map_or (λ text. list_any (bytes_eq text) lists) o false
    each None = nothing lists
    each (Some text) = refl

-- the rows of no list, of one, and of some with those of others
pub of_none : (lists : List (List ℕ)) (xs : List Stored) → length lists < 1 → filter (λ s. list_any (λ list. belongs list s.0) lists) xs ≡ []
of_none [] xs lt = none xs
  where
    none : (xs : List Stored) → filter (λ s. false) xs ≡ []
    none [] = refl
    none (x ∷ xs) = none xs
of_none (l ∷ lists) xs lt = absurd (omega arith)

pub in_order-of : (lists : List (List ℕ)) (xs : List Stored) → AreRows xs → AreRows (filter (λ s. list_any (λ list. belongs list s.0) lists) xs)
in_order-of lists xs h = in_order-filter stored_key (λ s. list_any (λ list. belongs list s.0) lists) xs h

any-parts : (p : List ℕ → Bool) (n : ℕ) (lists : List (List ℕ)) → (list_any p (take n lists) || list_any p (drop n lists)) ≡ list_any p lists
any-parts p zero lists = refl
any-parts p (suc n) [] = refl
any-parts p (suc n) (l ∷ lists) = elim (p l) as (λ b. ((b || list_any p (take n lists)) || list_any p (drop n lists)) ≡ (b || list_any p lists)) [ true ↦ refl | false ↦ any-parts p n lists ]

pub of_both : (n : ℕ) (lists front back : List (List ℕ)) (xs left right rows : List Stored) → AreRows xs → front ≡ take n lists → back ≡ drop n lists
    → left ≡ filter (λ s. list_any (λ list. belongs list s.0) front) xs → right ≡ filter (λ s. list_any (λ list. belongs list s.0) back) xs → rows ≡ merged left right
    → rows ≡ filter (λ s. list_any (λ list. belongs list s.0) lists) xs
of_both n lists front back xs left right rows h front_is back_is left_is right_is rows_are =
    rows_are
    ∙ (λ k. merged (left_is k) (right_is k))
    ∙ merged-filter (λ s. list_any (λ list. belongs list s.0) front) (λ s. list_any (λ list. belongs list s.0) back) xs h
    ∙ (λ k. filter (λ s. list_any (λ list. belongs list s.0) (front_is k) || list_any (λ list. belongs list s.0) (back_is k)) xs)
    ∙ (λ k. filter (λ s. any-parts (λ list. belongs list s.0) n lists k) xs)

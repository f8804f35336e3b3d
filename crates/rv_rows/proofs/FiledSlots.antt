-- The slots of the rows that are filed under one text stand together in an order by what rows are filed under, and are in the
-- order of their keys where those come then.
use Rattle.std.proofs.Common.{◌≡◌, ℕ, zero, suc, ◌<◌, ◌≤◌, Bool, true, false, not, cond, List, [], ◌∷◌, length, get_or, refl, sym, ap, ◌∙◌, subst, arith, nat_lt}
use Rattle.std.specs.declared.cmp.Ordering.{Ordering}
use Rattle.std.specs.declared.cmp.Ordering.TheVariants.{Less, Equal, Greater}
use Rattle.std.specs.Ordering.{nat_cmp, is_lt, is_le, is_eq, ordering_index}
use Rattle.std.specs.Cmp.Lexicographic.{slice_cmp}
use Rattle.std.specs.Str.{bytes_eq}
use Rattle.std.specs.List.{filter, list_any, AllByRecursion}
use Rattle.std.specs.List.Sorted.{IsPartitionedBy}
use Rattle.std.proofs.lemmas.Bool.Decides.{nat_tests}
use Rattle.std.proofs.lemmas.Map.Text.{is_eq-slice_cmp}
use Rattle.std.proofs.lemmas.Slice.Eq.{bytes_eq-Decides}
use Rattle.std.proofs.lemmas.Cmp.{nat_list_cmp_total, tied_itself}
use Rattle.rv_base.specs.Sorted.{InOrder, Below}
use Rattle.rv_base.specs.PositionLaws.{Above, same_from, in_order-filter}
use Rattle.rv_chunks.specs.Chunking.{Rises}
use Rattle.rv_rows.specs.Held.{Stored, stored_key, AreRows}
use Rattle.rv_rows.specs.declared.filing.Filing.{Filing}
use Rattle.rv_rows.specs.declared.row.Row.{Row}
use Rattle.rv_rows.specs.Keys.{row_text}
use Rattle.rv_rows.specs.Filed.{filed, under, is_filed, then_by, filed_key}
use Rattle.rv_rows.specs.Slots.{row_of, standing, by_slot, filed_slots, is_under, AreSame, AreSlots, IsFiled}
use Rattle.rv_rows.proofs.FiledLaws.{filed-below, filed-rises}
use Rattle.rv_rows.proofs.SlotLaws.{by_flag, same_orders, same-filter, filter-within, in_order-slots, all-filter}

-- a list that is not above another stands below a third where the other does
NotAbove : List ℕ → List ℕ → Type 0
NotAbove a b = slice_cmp nat_cmp a b ≡ Greater → Less ≡ Greater

lower_too : (a b k : List ℕ) → NotAbove a b → is_lt (slice_cmp nat_cmp b k) ≡ true → is_lt (slice_cmp nat_cmp a k) ≡ true
unfolding NotAbove
lower_too a b k h =
    elim (slice_cmp nat_cmp a b) as (λ p. slice_cmp nat_cmp a b ≡ p → is_lt (slice_cmp nat_cmp b k) ≡ true → is_lt (slice_cmp nat_cmp a k) ≡ true) [
      | Less ↦ λ e. elim (slice_cmp nat_cmp b k) as (λ q. slice_cmp nat_cmp b k ≡ q → is_lt q ≡ true → is_lt (slice_cmp nat_cmp a k) ≡ true) [
        | Less ↦ λ f _. ap is_lt (nat_list_cmp_total.trans a b k e f)
        | Equal ↦ λ f g. absurd (cc)
        | Greater ↦ λ f g. absurd (cc)
      ] refl
      | Equal ↦ λ e g. ap (λ (l : List ℕ). is_lt (slice_cmp nat_cmp l k)) (same_from a b e) ∙ g
      | Greater ↦ λ e g. let both : Less ≡ Greater = h e in absurd (cc)
    ] refl

no_higher_too : (a b k : List ℕ) → NotAbove a b → is_le (slice_cmp nat_cmp b k) ≡ true → is_le (slice_cmp nat_cmp a k) ≡ true
unfolding NotAbove
no_higher_too a b k h =
    elim (slice_cmp nat_cmp a b) as (λ p. slice_cmp nat_cmp a b ≡ p → is_le (slice_cmp nat_cmp b k) ≡ true → is_le (slice_cmp nat_cmp a k) ≡ true) [
      | Less ↦ λ e. elim (slice_cmp nat_cmp b k) as (λ q. slice_cmp nat_cmp b k ≡ q → is_le q ≡ true → is_le (slice_cmp nat_cmp a k) ≡ true) [
        | Less ↦ λ f _. ap is_le (nat_list_cmp_total.trans a b k e f)
        | Equal ↦ λ f _. ap is_le (subst (λ (l : List ℕ). Below a l) (same_from b k f) e)
        | Greater ↦ λ f g. absurd (cc)
      ] refl
      | Equal ↦ λ e g. ap (λ (l : List ℕ). is_le (slice_cmp nat_cmp l k)) (same_from a b e) ∙ g
      | Greater ↦ λ e g. let both : Less ≡ Greater = h e in absurd (cc)
    ] refl

-- what the rows are filed under does not fall
module _ (by : Filing) (f : ℕ → Stored) where
  above_later : (s : Stored) (os : List ℕ) (j d : ℕ) → j < length os → Above (λ i. filed_key by (f i)) (filed_key by s) os → NotAbove (under by s.0) (under by (f (get_or os j d)).0)
  unfolding NotAbove
  above_later s [] j d lt all = absurd (omega arith)
  above_later s (x ∷ os) zero d lt all = filed-rises (under by s.0) (under by (f x).0) (then_by by s.0) (then_by by (f x).0) all.0
  above_later s (x ∷ os) (suc j) d lt all = above_later s os j d (omega arith) all.1

  not_itself : (a : List ℕ) → NotAbove a a
  unfolding NotAbove
  not_itself a e = let both : Equal ≡ Greater = sym (tied_itself nat_list_cmp_total a) ∙ e in absurd (cc)

  never_falls : (os : List ℕ) (i j d : ℕ) → InOrder (λ i. filed_key by (f i)) os → i ≤ j → j < length os → NotAbove (under by (f (get_or os i d)).0) (under by (f (get_or os j d)).0)
  never_falls [] i j d h le lt = absurd (omega arith)
  never_falls (x ∷ os) zero zero d h le lt = not_itself (under by (f x).0)
  never_falls (x ∷ os) zero (suc j) d h le lt = above_later (f x) os j d (omega arith) h.0
  never_falls (x ∷ os) (suc i) zero d h le lt = absurd (omega arith)
  never_falls (x ∷ os) (suc i) (suc j) d h le lt = never_falls os i j d h.1 (omega arith) (omega arith)

slot_within : (n : ℕ) (os : List ℕ) (j d : ℕ) → AreSlots n os → j < length os → get_or os j d < n
slot_within n [] j d all lt = absurd (omega arith)
slot_within n (x ∷ os) zero d all lt = all.0
slot_within n (x ∷ os) (suc j) d all lt = slot_within n os j d all.1 (omega arith)

below_is_true : (i n : ℕ) → i < n → nat_lt i n ≡ true
below_is_true i n lt = grind (arith, nat_tests)

module _ (by : Filing) (slots : List Stored) (text : List ℕ) where
  -- how what the slots' rows are filed under stands to the text
  abbrev pub stands : ℕ → Ordering
  stands i = by_slot (λ s. under by s.0) text slots i

  stands_as : (i : ℕ) → i < length slots → stands i ≡ slice_cmp nat_cmp (under by (row_of slots i).0) text
  stands_as i lt = ap (λ b. cond b (slice_cmp nat_cmp (under by (row_of slots i).0) text) Less) (below_is_true i (length slots) lt)

  pub parted_below : (os : List ℕ) → AreSlots (length slots) os → InOrder (λ i. filed_key by (row_of slots i)) os → IsPartitionedBy (λ i. is_lt (stands i)) os
  parted_below os all h i j d le lt e =
      let early : i < length os = omega arith in
      ap is_lt (stands_as (get_or os i d) (slot_within (length slots) os i d all early))
      ∙ lower_too (under by (row_of slots (get_or os i d)).0) (under by (row_of slots (get_or os j d)).0) text (never_falls by (row_of slots) os i j d h le lt) (ap is_lt (sym (stands_as (get_or os j d) (slot_within (length slots) os j d all lt))) ∙ e)

  pub parted_above : (os : List ℕ) → AreSlots (length slots) os → InOrder (λ i. filed_key by (row_of slots i)) os → IsPartitionedBy (λ i. is_le (stands i)) os
  parted_above os all h i j d le lt e =
      let early : i < length os = omega arith in
      ap is_le (stands_as (get_or os i d) (slot_within (length slots) os i d all early))
      ∙ no_higher_too (under by (row_of slots (get_or os i d)).0) (under by (row_of slots (get_or os j d)).0) text (never_falls by (row_of slots) os i j d h le lt) (ap is_le (sym (stands_as (get_or os j d) (slot_within (length slots) os j d all lt))) ∙ e)

  pub tied_under : (os : List ℕ) → AreSlots (length slots) os → filter (λ i. is_eq (stands i)) os ≡ filter (is_under by text slots) os
  tied_under [] all = refl
  tied_under (x ∷ os) all =
      ap (λ (t : Bool). cond t (x ∷ filter (λ i. is_eq (stands i)) os) (filter (λ i. is_eq (stands i)) os)) (ap is_eq (stands_as x all.0) ∙ is_eq-slice_cmp (under by (row_of slots x).0) text)
      ∙ ap (λ t. cond (is_under by text slots x) (x ∷ t) t) (tied_under os all.1)

-- what stands no later where another stands no earlier
no_later : (o p : Ordering) → (is_lt p ≡ true → is_lt o ≡ true) → (is_le p ≡ true → is_le o ≡ true) → ordering_index o ≤ ordering_index p
no_later Less p lt le = omega arith
no_later Equal Less lt le = absurd (let both : false ≡ true = lt refl in cc)
no_later Equal Equal lt le = omega arith
no_later Equal Greater lt le = omega arith
no_later Greater Less lt le = absurd (let both : false ≡ true = le refl in cc)
no_later Greater Equal lt le = absurd (let both : false ≡ true = le refl in cc)
no_later Greater Greater lt le = omega arith

-- so the slots never fall by how what their rows are filed under stands to a text
pub rises_under : (by : Filing) (slots : List Stored) (text : List ℕ) (os : List ℕ) → AreSlots (length slots) os → InOrder (filed_key by) (standing slots os) → Rises (stands by slots text) os
rises_under by slots text os all sorted i j d le lt =
    let h : InOrder (λ i. filed_key by (row_of slots i)) os = in_order-slots (filed_key by) (row_of slots) os sorted in
    no_later (stands by slots text (get_or os i d)) (stands by slots text (get_or os j d)) (parted_below by slots text os all h i j d le lt) (parted_above by slots text os all h i j d le lt)

-- an order goes by the keys under each text
abbrev pub GoesByKeys : Filing → Type 0
GoesByKeys by = (row : Row) → then_by by row ≡ row_text row

-- filed under one text, in the order of the keys and so in that of what they are filed under
within_text : (by : Filing) (f : ℕ → Stored) (text : List ℕ) (os : List ℕ) → GoesByKeys by → AllByRecursion (λ i. under by (f i).0 ≡ text) os → InOrder (λ i. stored_key (f i)) os → InOrder (λ i. filed_key by (f i)) os
within_text by f text [] plain all h = tt
within_text by f text (x ∷ os) plain all h = (each os all.1 h.0, within_text by f text os plain all.1 h.1)
  where
    keys_tell : (y : ℕ) → Below (stored_key (f x)) (stored_key (f y)) → Below (then_by by (f x).0) (then_by by (f y).0)
    keys_tell y low = subst (λ (k : List ℕ). Below k (then_by by (f y).0)) (sym (plain (f x).0)) (subst (λ (k : List ℕ). Below (stored_key (f x)) k) (sym (plain (f y).0)) low)

    each : (os : List ℕ) → AllByRecursion (λ i. under by (f i).0 ≡ text) os → Above (λ i. stored_key (f i)) (stored_key (f x)) os → Above (λ i. filed_key by (f i)) (filed_key by (f x)) os
    each [] of low = tt
    each (y ∷ ys) of low =
        (subst (λ (l : List ℕ). Below (filed l (then_by by (f x).0)) (filed_key by (f y))) (of.0 ∙ sym all.0) (filed-below (under by (f y).0) (then_by by (f x).0) (then_by by (f y).0) (keys_tell y low.0)), each ys of.1 low.1)

pub all_under : (by : Filing) (text : List ℕ) (slots : List Stored) (os : List ℕ) → AllByRecursion (λ i. under by (row_of slots i).0 ≡ text) (filter (is_under by text slots) os)
all_under by text slots [] = tt
all_under by text slots (x ∷ os) =
    by_flag (λ b. AllByRecursion (λ i. under by (row_of slots i).0 ≡ text) (cond b (x ∷ filter (is_under by text slots) os) (filter (is_under by text slots) os))) (is_under by text slots x)
    (λ e. ((bytes_eq-Decides (under by (row_of slots x).0) text).0 e, all_under by text slots os))
    (λ e. all_under by text slots os)

pub filter-standing : (p : Stored → Bool) (slots : List Stored) (os : List ℕ) → filter p (standing slots os) ≡ standing slots (filter (λ i. p (row_of slots i)) os)
filter-standing p slots [] = refl
filter-standing p slots (x ∷ os) =
    elim (p (row_of slots x)) as (λ b. cond b (row_of slots x ∷ filter p (standing slots os)) (filter p (standing slots os)) ≡ standing slots (cond b (x ∷ filter (λ i. p (row_of slots i)) os) (filter (λ i. p (row_of slots i)) os))) [
      | true ↦ ap (λ t. row_of slots x ∷ t) (filter-standing p slots os)
      | false ↦ filter-standing p slots os
    ]

-- the slots of a text are in the order that they were in
pub filed_under : (by : Filing) (slots : List Stored) (order : List ℕ) (text : List ℕ) → InOrder (filed_key by) (standing slots order) → InOrder (λ i. filed_key by (row_of slots i)) (filter (is_under by text slots) order)
filed_under by slots order text sorted = in_order-filter (λ (i : ℕ). filed_key by (row_of slots i)) (is_under by text slots) order (in_order-slots (filed_key by) (row_of slots) order sorted)

-- a row that is filed under a text that is not empty is filed
filed_own : (by : Filing) (text : List ℕ) (row : Row) → 1 ≤ length text → bytes_eq (under by row) text ≡ true → is_filed by row ≡ true
filed_own by text row some own = told text some (sym ((bytes_eq-Decides (under by row) text).0 own))
  where
    told : (text : List ℕ) → 1 ≤ length text → text ≡ under by row → is_filed by row ≡ true
    told [] some is = absurd (omega arith)
    told (x ∷ text) some is = ap (λ (l : List ℕ). not (bytes_eq l [])) (sym is)

-- so an order has the same slots under it as all
pub own_slots : (by : Filing) (slots : List Stored) (by_key order : List ℕ) (text : List ℕ) → 1 ≤ length text → AreSame (filed_slots by slots by_key) order → AreSame (filter (is_under by text slots) order) (filter (is_under by text slots) by_key)
own_slots by slots by_key order text some same test =
    same-filter (is_under by text slots) order (filed_slots by slots by_key) (λ p. sym (same p)) test
    ∙ (λ i. list_any test (filter-within (is_under by text slots) (λ o. is_filed by (row_of slots o).0) by_key (λ o own. filed_own by text (row_of slots o).0 some own) i))

-- the rows that are filed under a text in the one order are those in the other
pub filed_rows : (by : Filing) (slots : List Stored) (by_key order found : List ℕ) (rows : List Stored) (text : List ℕ) → GoesByKeys by → 1 ≤ length text → AreRows (standing slots by_key) → IsFiled by slots by_key order → standing slots by_key ≡ rows → found ≡ filter (is_under by text slots) order
    → standing slots found ≡ filter (λ s. bytes_eq (under by s.0) text) rows
filed_rows by slots by_key order found rows text plain some sorted is rows_are found_is =
    let own : ℕ → Bool = is_under by text slots in
    let keys : InOrder (λ i. stored_key (row_of slots i)) (filter own by_key) = in_order-filter (λ (i : ℕ). stored_key (row_of slots i)) own by_key (in_order-slots stored_key (row_of slots) by_key sorted) in
    let filed : InOrder (λ i. filed_key by (row_of slots i)) (filter own order) = filed_under by slots order text is.in_order in
    let same : filter own order ≡ filter own by_key = same_orders (λ i. filed_key by (row_of slots i)) (filter own order) (filter own by_key) filed (within_text by (row_of slots) text (filter own by_key) plain (all_under by text slots by_key) keys) (own_slots by slots by_key order text some is.same) in
    ap (standing slots) (found_is ∙ same)
    ∙ sym (filter-standing (λ s. bytes_eq (under by s.0) text) slots by_key)
    ∙ ap (filter (λ s. bytes_eq (under by s.0) text)) rows_are

pub found_slots : (by : Filing) (slots : List Stored) (order found : List ℕ) (text : List ℕ) → AreSlots (length slots) order → found ≡ filter (is_under by text slots) order → AreSlots (length slots) found
found_slots by slots order found text all is = subst (AreSlots (length slots)) (sym is) (all-filter (λ i. i < length slots) (is_under by text slots) order all)

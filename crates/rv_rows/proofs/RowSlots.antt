-- Rows in slots, and the four orders of the slots, as rows come and go.
use Rattle.std.proofs.Common.{◌≡◌, ◌≢◌, ℕ, zero, suc, ◌+◌, ◌-◌, ◌<◌, Bool, true, false, cond, ◌||◌, ◌&&◌, not, eqb, List, [], ◌∷◌, ◌++◌, map, length, get_or, set, Option, Result, Some, None, Ok, refl, sym, ap, ◌∙◌, subst, arith, nat_lt, get_or-set_same, get_or-set_other}
use Rattle.std.specs.Ordering.{nat_cmp}
use Rattle.std.specs.Cmp.Lexicographic.{slice_cmp}
use Rattle.std.specs.List.{AllByRecursion, list_any, filter, insert, remove}
use Rattle.std.specs.declared.cmp.Ordering.TheVariants.{Less}
use Rattle.std.proofs.lemmas.Bool.Decides.{nat_tests, Decides-eqb}
use Rattle.std.specs.Option.{option_map}
use Rattle.std.specs.Str.{bytes_eq}
use Rattle.std.proofs.lemmas.Slice.Eq.{bytes_eq-Decides}
use Rattle.std.proofs.Math.ListN.{length-set}
use Rattle.std.proofs.lemmas.List.{get_or_append_left, length-append, length-map, get_or-map}
use Rattle.std.proofs.lemmas.Option.{none-some}
use Rattle.std.proofs.Math.Seq.{get_or-append_seam}
use Rattle.rv_base.specs.Sorted.{find_by, without, InOrder, IsPositionOf}
use Rattle.rv_base.specs.PositionLaws.{in_order-filter, in_order-put, in_order-without, find_put, find_without, equals}
use Rattle.rv_base.specs.ArrangedLaws.{find-map, in_order-same}
use Rattle.rv_rows.specs.Keys.{row_text}
use Rattle.rv_rows.specs.Held.{Stored, stored_key, put, AreRows}
use Rattle.rv_rows.specs.declared.filing.Filing.{Filing}
use Rattle.rv_rows.specs.declared.filing.Filing.TheVariants as filings
use Rattle.rv_rows.specs.Sharing.{user_of}
use Rattle.rv_rows.specs.declared.row.Row.{Row}
use Rattle.rv_rows.specs.Filed.{filed, falling, is_filed, sort_of, filed_text, filed_key, under}
use Rattle.rv_rows.specs.Slots.{no_row, row_of, standing, by_slot, filed_slots, entered, left_out, AreSlots, AreSame, IsFiled, IsGapFor, StandsIn, HasOrders, relabelled, renamed, Vacates}
use Rattle.rv_rows.proofs.FiledLaws.{filed-key}
use Rattle.rv_rows.proofs.SlotLaws.{by_flag, by_found, any_default, found_key, renamed_settled, struck, rewritten, member_found, found_item, in_order-slots, in_order-items, any-filter, any-map, any-alike, any-insert, absent-filter, all-to, all-map, all-insert, others-filter, alike, alike-moved, map-insert, map-remove}

pub slot_at : (n : ℕ) (os : List ℕ) (j : ℕ) → AreSlots n os → j < length os → get_or os j 0 < n
slot_at n [] j all lt = absurd (omega arith)
slot_at n (o ∷ os) zero all lt = all.0
slot_at n (o ∷ os) (suc j) all lt = slot_at n os j all.1 (omega arith)

below_is_true : (i n : ℕ) → i < n → nat_lt i n ≡ true
below_is_true i n lt = grind (arith, nat_tests)

-- a slot that is there stands as its row does
pub in_slots : (key : Stored → List ℕ) (k : List ℕ) (slots : List Stored) (os : List ℕ) → AreSlots (length slots) os → (j : ℕ) → j < length os
    → by_slot key k slots (get_or os j 0) ≡ slice_cmp nat_cmp (key (row_of slots (get_or os j 0))) k
in_slots key k slots os all j lt = ap (λ b. cond b (slice_cmp nat_cmp (key (row_of slots (get_or os j 0))) k) Less) (below_is_true _ _ (slot_at (length slots) os j all lt))

pub slot_held : (n s : ℕ) (os : List ℕ) → AreSlots n os → list_any (eqb s) os ≡ true → s < n
slot_held n s [] all e = absurd (let f : false ≡ true = e in cc)
slot_held n s (o ∷ os) all e = by_flag (λ b. (b || list_any (eqb s) os) ≡ true → s < n) (eqb s o) (λ t f. subst (λ (i : ℕ). i < n) (sym ((Decides-eqb s o).0 t)) all.0) (λ t f. slot_held n s os all.1 f) e

-- a slot whose row is filed is one of all
held_too : (by : Filing) (slots : List Stored) (by_key : List ℕ) (i : ℕ) → list_any (eqb i) (filed_slots by slots by_key) ≡ true → list_any (eqb i) by_key ≡ true
held_too by slots [] i e = e
held_too by slots (o ∷ os) i e =
    by_flag (λ b. list_any (eqb i) (cond b (o ∷ filed_slots by slots os) (filed_slots by slots os)) ≡ true → list_any (eqb i) (o ∷ os) ≡ true) (is_filed by (row_of slots o).0)
    (λ _ f. by_flag (λ b. (b || list_any (eqb i) (filed_slots by slots os)) ≡ true → (b || list_any (eqb i) os) ≡ true) (eqb i o) (λ _ _. refl) (λ _ g. held_too by slots os i g) f)
    (λ _ f. by_flag (λ b. (b || list_any (eqb i) os) ≡ true) (eqb i o) (λ _. refl) (λ _. held_too by slots os i f)) e

-- a row whose key no row has is not among the rows by what they are filed under either
pub absent_too : (by : Filing) (slots : List Stored) (by_key order : List ℕ) (row : Row) → AreRows (standing slots by_key) → IsFiled by slots by_key order → find_by stored_key (row_text row) (standing slots by_key) ≡ None → find_by (filed_key by) (filed_text by row) (standing slots order) ≡ None
absent_too by slots by_key order row sorted is none =
    sym (find-map (filed_key by) (row_of slots) (filed_text by row) order)
    ∙ by_found (λ o. option_map (row_of slots) o ≡ None) (find_by (λ i. filed_key by (row_of slots i)) (filed_text by row) order)
    (λ e. refl)
    (λ i e.
    let at = member_found (λ i. filed_key by (row_of slots i)) (filed_text by row) order i e in
    let same : row_text row ≡ stored_key (row_of slots i) = filed-key by row (row_of slots i).0 at.1 in
    absurd (none-some (row_of slots i) (sym none ∙ ap (λ (k : List ℕ). find_by stored_key k (standing slots by_key)) same ∙ found_item stored_key (row_of slots) by_key i sorted (held_too by slots by_key i (is.same (eqb i) ∙ at.0)))))

-- a row in a new slot
standing_old : (slots : List Stored) (x : Stored) (os : List ℕ) → AreSlots (length slots) os → standing (slots ++ x ∷ []) os ≡ standing slots os
standing_old slots x os all = alike (row_of slots) (row_of (slots ++ x ∷ [])) (λ i. i < length slots) os (λ i lt. get_or_append_left slots (x ∷ []) no_row i lt) all

pub standing_new : (slots : List Stored) (x : Stored) (os : List ℕ) (j : ℕ) → AreSlots (length slots) os → standing (slots ++ x ∷ []) (insert os j (length slots)) ≡ insert (standing slots os) j x
standing_new slots x os j all =
    map-insert (row_of (slots ++ x ∷ [])) os j (length slots)
    ∙ rw (standing_old slots x os all, get_or-append_seam slots x [] no_row) refl

more_slots : (slots : List Stored) (x : Stored) (os : List ℕ) (j : ℕ) → AreSlots (length slots) os → AreSlots (length (slots ++ x ∷ [])) (insert os j (length slots))
more_slots slots x os j all = rw (length-append slots (x ∷ [])) (all-insert (λ i. i < length slots + 1) (length slots) os j (omega arith) (all-to (λ i. i < length slots) (λ i. i < length slots + 1) os (λ i lt. omega arith) all))

-- the slots of filed rows, with one slot more
more_filed : (by : Filing) (slots : List Stored) (by_key order : List ℕ) (x : Stored) (i : ℕ) (test : ℕ → Bool) → AreSlots (length slots) by_key → AreSame (filed_slots by slots by_key) order
    → list_any test (filed_slots by (slots ++ x ∷ []) (insert by_key i (length slots))) ≡ ((is_filed by x.0 && test (length slots)) || list_any test order)
more_filed by slots by_key order x i test all same =
    let now : ℕ → Bool = λ o. is_filed by (row_of (slots ++ x ∷ []) o).0 in
    let was : ℕ → Bool = λ o. is_filed by (row_of slots o).0 in
    any-filter test now (insert by_key i (length slots))
    ∙ any-insert (λ o. now o && test o) by_key i (length slots)
    ∙ (λ k. (is_filed by (get_or-append_seam slots x [] no_row k).0 && test (length slots)) || any-alike (λ o. o < length slots) (λ o. now o && test o) (λ o. was o && test o) by_key (λ o lt. ap (λ (s : Stored). is_filed by s.0 && test o) (get_or_append_left slots (x ∷ []) no_row o lt)) all k)
    ∙ ap (λ (b : Bool). (is_filed by x.0 && test (length slots)) || b) (sym (any-filter test was by_key) ∙ same test)

pub pushed_filed : (by : Filing) (slots : List Stored) (by_key order : List ℕ) (x : Stored) (i : ℕ) (at : Option ℕ) → AreSlots (length slots) by_key → IsFiled by slots by_key order → IsGapFor by x (standing slots order) at
    → IsFiled by (slots ++ x ∷ []) (insert by_key i (length slots)) (entered at (length slots) order)
pushed_filed by slots by_key order x i None all is out =
    record {
      in_slots = rw (length-append slots (x ∷ [])) (all-to (λ o. o < length slots) (λ o. o < length slots + 1) order (λ o lt. omega arith) is.in_slots);
      in_order = subst (InOrder (filed_key by)) (sym (standing_old slots x order is.in_slots)) is.in_order;
      same = λ test. more_filed by slots by_key order x i test all is.same ∙ ap (λ (b : Bool). (b && test (length slots)) || list_any test order) out;
    }
pushed_filed by slots by_key order x i (Some j) all is gap =
    record {
      in_slots = more_slots slots x order j is.in_slots;
      in_order = subst (InOrder (filed_key by)) (sym (standing_new slots x order j is.in_slots)) gap.1;
      same = λ test. more_filed by slots by_key order x i test all is.same ∙ ap (λ (b : Bool). (b && test (length slots)) || list_any test order) gap.0 ∙ sym (any-insert test order j (length slots));
    }

pub pushed : (slots new : List Stored) (by_key keys by_list lists by_user users by_sort sorts : List ℕ) (x : Stored) (i n : ℕ) (j k l : Option ℕ) → HasOrders slots by_key by_list by_user by_sort → AreRows (insert (standing slots by_key) i x)
    → IsGapFor filings.List x (standing slots by_list) j → IsGapFor filings.User x (standing slots by_user) k → IsGapFor filings.Sort x (standing slots by_sort) l
    → new ≡ slots ++ x ∷ [] → n ≡ length slots → keys ≡ insert by_key i n → lists ≡ entered j n by_list → users ≡ entered k n by_user → sorts ≡ entered l n by_sort → HasOrders new keys lists users sorts
pushed slots new by_key keys by_list lists by_user users by_sort sorts x i n j k l indexed rows list_gap user_gap sort_gap new_is n_is keys_are lists_are users_are sorts_are =
    rw (keys_are, lists_are, users_are, sorts_are, n_is, new_is)
    (record {
      key_slots = more_slots slots x by_key i indexed.key_slots;
      key_order = subst AreRows (sym (standing_new slots x by_key i indexed.key_slots)) rows;
      lists = pushed_filed filings.List slots by_key by_list x i j indexed.key_slots indexed.lists list_gap;
      users = pushed_filed filings.User slots by_key by_user x i k indexed.key_slots indexed.users user_gap;
      sorts = pushed_filed filings.Sort slots by_key by_sort x i l indexed.key_slots indexed.sorts sort_gap;
    })

-- a row that goes
moved_in : (n s m i : ℕ) → m + 1 ≡ n → s < n → i < n → i ≢ s → relabelled (n - 1) s i < m
moved_in n s m i e at lt apart = by_flag (λ b. cond b s i < m) (eqb i (n - 1)) (λ t. let same : i ≡ n - 1 = (Decides-eqb i (n - 1)).0 t in omega arith) (λ f. let other : i ≢ n - 1 = λ same. false_true (sym f ∙ (Decides-eqb i (n - 1)).1 same) in omega arith)
  where
    false_true : false ≡ true → ⊥
    false_true e = absurd (cc)

-- an order without the slot at a position has the other slots
left_over : (key : Stored → List ℕ) (slots : List Stored) (os : List ℕ) (j s : ℕ) → InOrder key (standing slots os) → j < length os → get_or os j 0 ≡ s → remove os j ≡ filter (λ i. not (eqb s i)) os
left_over key slots os j s sorted lt is = struck (λ i. key (row_of slots i)) os j s (in_order-slots key (row_of slots) os sorted) lt is

-- and so has an order in which the slot does not stand
left_filed : (by : Filing) (slots : List Stored) (by_key order : List ℕ) (at : Option ℕ) (s : ℕ) → IsFiled by slots by_key order → StandsIn by slots order s at → left_out at order ≡ filter (λ i. not (eqb s i)) order
left_filed by slots by_key order None s is out = sym (absent-filter s order (sym (is.same (eqb s)) ∙ not_filed by_key))
  where
    not_filed : (os : List ℕ) → list_any (eqb s) (filed_slots by slots os) ≡ false
    not_filed [] = refl
    not_filed (o ∷ os) =
        by_flag (λ b. is_filed by (row_of slots o).0 ≡ b → list_any (eqb s) (cond b (o ∷ filed_slots by slots os) (filed_slots by slots os)) ≡ false) (is_filed by (row_of slots o).0)
        (λ t _. by_flag (λ b. (b || list_any (eqb s) (filed_slots by slots os)) ≡ false) (eqb s o) (λ same. let both : true ≡ false = sym t ∙ subst (λ (i : ℕ). is_filed by (row_of slots i).0 ≡ false) ((Decides-eqb s o).0 same) out in absurd (cc)) (λ _. not_filed os))
        (λ _ _. not_filed os) refl
left_filed by slots by_key order (Some j) s is there = left_over (filed_key by) slots order j s is.in_order there.0 there.1

module _ (key : Stored → List ℕ) (slots left : List Stored) (os ws : List ℕ) (s : ℕ) (all : AreSlots (length slots) os) (others : ws ≡ filter (λ i. not (eqb s i)) os) (gone : Vacates slots s left) where
  left_slots : AllByRecursion (λ i. (i < length slots) × (i ≢ s)) ws
  left_slots = subst (AllByRecursion (λ i. (i < length slots) × (i ≢ s))) (sym others) (others-filter (λ i. i < length slots) s os all)

  standing_left : standing left (map (relabelled (length slots - 1) s) ws) ≡ standing slots ws
  standing_left = alike-moved (row_of slots) (row_of left) (relabelled (length slots - 1) s) (λ i. (i < length slots) × (i ≢ s)) ws (λ i h. gone.stays i h.0 h.1) left_slots

  order_left : InOrder key (standing slots os) → InOrder key (standing left (map (relabelled (length slots - 1) s) ws))
  order_left sorted =
      let part : InOrder key (standing slots (filter (λ i. not (eqb s i)) os)) = in_order-items key (row_of slots) (filter (λ i. not (eqb s i)) os) (in_order-filter (λ i. key (row_of slots i)) (λ i. not (eqb s i)) os (in_order-slots key (row_of slots) os sorted)) in
      subst (InOrder key) (sym standing_left) (subst (λ (ws : List ℕ). InOrder key (standing slots ws)) (sym others) part)

  slots_left : s < length slots → AreSlots (length left) (map (relabelled (length slots - 1) s) ws)
  slots_left there = all-map (λ i. (i < length slots) × (i ≢ s)) (λ i. i < length left) (relabelled (length slots - 1) s) ws (λ i h. moved_in (length slots) s (length left) i gone.one_less there h.0 h.1) left_slots

-- of the slots that are left, those whose rows are filed
filed_left : (by : Filing) (slots left : List Stored) (by_key order : List ℕ) (s : ℕ) (test : ℕ → Bool) → AreSlots (length slots) by_key → AreSame (filed_slots by slots by_key) order → Vacates slots s left
    → list_any test (filed_slots by left (map (relabelled (length slots - 1) s) (filter (λ i. not (eqb s i)) by_key))) ≡ list_any test (map (relabelled (length slots - 1) s) (filter (λ i. not (eqb s i)) order))
filed_left by slots left by_key order s test all same gone =
    let moved : ℕ → ℕ = relabelled (length slots - 1) s in
    let other : ℕ → Bool = λ i. not (eqb s i) in
    let now : ℕ → Bool = λ i. is_filed by (row_of left i).0 in
    let was : ℕ → Bool = λ i. is_filed by (row_of slots i).0 in
    any-filter test now (map moved (filter other by_key))
    ∙ any-map (λ i. now i && test i) moved (filter other by_key)
    ∙ any-alike (λ i. (i < length slots) × (i ≢ s)) (λ i. now (moved i) && test (moved i)) (λ i. was i && test (moved i)) (filter other by_key) (λ i h. ap (λ (x : Stored). is_filed by x.0 && test (moved i)) (gone.stays i h.0 h.1)) (others-filter (λ i. i < length slots) s by_key all)
    ∙ any-filter (λ i. was i && test (moved i)) other by_key
    ∙ (λ k. list_any (λ i. swapped (other i) (was i) (test (moved i)) k) by_key)
    ∙ sym (any-filter (λ i. other i && test (moved i)) was by_key)
    ∙ same (λ i. other i && test (moved i))
    ∙ sym (any-filter (λ i. test (moved i)) other order)
    ∙ sym (any-map test moved (filter other order))
  where
    swapped : (a b c : Bool) → (a && (b && c)) ≡ (b && (a && c))
    swapped true b c = refl
    swapped false true c = refl
    swapped false false c = refl

pub vacated_filed : (by : Filing) (slots left : List Stored) (by_key order : List ℕ) (i s : ℕ) (at : Option ℕ) → AreSlots (length slots) by_key → AreRows (standing slots by_key) → IsFiled by slots by_key order → i < length by_key → get_or by_key i 0 ≡ s → StandsIn by slots order s at → Vacates slots s left
    → IsFiled by left (map (relabelled (length slots - 1) s) (remove by_key i)) (map (relabelled (length slots - 1) s) (left_out at order))
vacated_filed by slots left by_key order i s at all sorted is i_in i_is stands gone =
    let there : s < length slots = subst (λ (i : ℕ). i < length slots) i_is (slot_at (length slots) by_key i all i_in) in
    let others : left_out at order ≡ filter (λ i. not (eqb s i)) order = left_filed by slots by_key order at s is stands in
    record {
      in_slots = slots_left (filed_key by) slots left order (left_out at order) s is.in_slots others gone there;
      in_order = order_left (filed_key by) slots left order (left_out at order) s is.in_slots others gone is.in_order;
      same = λ test.
          (λ k. list_any test (filed_slots by left (map (relabelled (length slots - 1) s) (left_over stored_key slots by_key i s sorted i_in i_is k))))
          ∙ filed_left by slots left by_key order s test all is.same gone
          ∙ (λ k. list_any test (map (relabelled (length slots - 1) s) (sym others k)));
    }

pub vacated : (slots left : List Stored) (by_key keys by_list lists by_user users by_sort sorts : List ℕ) (i s last : ℕ) (j k l : Option ℕ) → HasOrders slots by_key by_list by_user by_sort
    → i < length by_key → get_or by_key i 0 ≡ s → StandsIn filings.List slots by_list s j → StandsIn filings.User slots by_user s k → StandsIn filings.Sort slots by_sort s l → Vacates slots s left
    → last ≡ length slots - 1 → keys ≡ map (relabelled last s) (remove by_key i) → lists ≡ map (relabelled last s) (left_out j by_list) → users ≡ map (relabelled last s) (left_out k by_user) → sorts ≡ map (relabelled last s) (left_out l by_sort)
    → HasOrders left keys lists users sorts × (standing left keys ≡ remove (standing slots by_key) i)
vacated slots left by_key keys by_list lists by_user users by_sort sorts i s last j k l indexed i_in i_is in_list of_user of_sort gone last_is keys_are lists_are users_are sorts_are =
    let there : s < length slots = subst (λ (i : ℕ). i < length slots) i_is (slot_at (length slots) by_key i indexed.key_slots i_in) in
    let others : remove by_key i ≡ filter (λ i. not (eqb s i)) by_key = left_over stored_key slots by_key i s indexed.key_order i_in i_is in
    rw (keys_are, lists_are, users_are, sorts_are, last_is) (
      record {
        key_slots = slots_left stored_key slots left by_key (remove by_key i) s indexed.key_slots others gone there;
        key_order = order_left stored_key slots left by_key (remove by_key i) s indexed.key_slots others gone indexed.key_order;
        lists = vacated_filed filings.List slots left by_key by_list i s j indexed.key_slots indexed.key_order indexed.lists i_in i_is in_list gone;
        users = vacated_filed filings.User slots left by_key by_user i s k indexed.key_slots indexed.key_order indexed.users i_in i_is of_user gone;
        sorts = vacated_filed filings.Sort slots left by_key by_sort i s l indexed.key_slots indexed.key_order indexed.sorts i_in i_is of_sort gone;
      },
      standing_left stored_key slots left by_key (remove by_key i) s indexed.key_slots others gone ∙ map-remove (row_of slots) by_key i,
    )

-- another row with the same key, filed as before
module _ (slots : List Stored) (s : ℕ) (x : Stored) (at : s < length slots) where
  new_row : row_of (set slots s x) s ≡ x
  new_row = get_or-set_same slots s x no_row at

  old_row : (o : ℕ) → eqb s o ≡ false → row_of (set slots s x) o ≡ row_of slots o
  old_row o f = get_or-set_other slots s o x no_row (λ same. let e : true ≡ false = sym ((Decides-eqb s o).1 (sym same)) ∙ f in absurd (cc))

  keys_stay : (key : Stored → List ℕ) → key x ≡ key (row_of slots s) → ◌≡◌ {A = ℕ → List ℕ} (λ o. key (row_of slots o)) (λ o. key (row_of (set slots s x) o))
  keys_stay key same = λ i o. sym (stays o) i
    where
      stays : (o : ℕ) → key (row_of (set slots s x) o) ≡ key (row_of slots o)
      stays o =
          by_flag (λ b. eqb s o ≡ b → key (row_of (set slots s x) o) ≡ key (row_of slots o)) (eqb s o)
          (λ t _. subst (λ (o : ℕ). key (row_of (set slots s x) o) ≡ key (row_of slots o)) ((Decides-eqb s o).0 t) (ap key new_row ∙ same))
          (λ f _. ap key (old_row o f)) refl

  order_stays : (key : Stored → List ℕ) (os : List ℕ) → key x ≡ key (row_of slots s) → InOrder key (standing slots os) → InOrder key (standing (set slots s x) os)
  order_stays key os same sorted = in_order-items key (row_of (set slots s x)) os (subst (λ (g : ℕ → List ℕ). InOrder g os) (keys_stay key same) (in_order-slots key (row_of slots) os sorted))

written_filed : (by : Filing) (slots : List Stored) (by_key order : List ℕ) (s : ℕ) (x : Stored) → s < length slots → under by x.0 ≡ under by (row_of slots s).0 → filed_key by x ≡ filed_key by (row_of slots s) → IsFiled by slots by_key order → IsFiled by (set slots s x) by_key order
written_filed by slots by_key order s x at alike same is =
    record {
      in_slots = rw (length-set slots s x) is.in_slots;
      in_order = order_stays slots s x at (filed_key by) order same is.in_order;
      same = subst (λ (text : ℕ → List ℕ). AreSame (filter (λ i. not (bytes_eq (text i) [])) by_key) order) (keys_stay slots s x at (λ s. under by s.0) alike) is.same;
    }

-- a row with the key of another, that is filed as it is
pub record IsFiledAs (row other : Row) : Type 0 where
  pub key : row_text row ≡ row_text other
  pub list : under filings.List row ≡ under filings.List other
  pub user : user_of row ≡ user_of other
  pub sort : sort_of row ≡ sort_of other

pub written : (slots new : List Stored) (by_key by_list by_user by_sort : List ℕ) (i s : ℕ) (x : Stored) → HasOrders slots by_key by_list by_user by_sort → i < length by_key → get_or by_key i 0 ≡ s → IsFiledAs x.0 (row_of slots s).0
    → new ≡ set slots s x → HasOrders new by_key by_list by_user by_sort × (standing new by_key ≡ set (standing slots by_key) i x)
written slots new by_key by_list by_user by_sort i s x indexed lt is alike new_is =
    let at : s < length slots = subst (λ (i : ℕ). i < length slots) is (slot_at (length slots) by_key i indexed.key_slots lt) in
    rw new_is (
      record {
        key_slots = rw (length-set slots s x) indexed.key_slots;
        key_order = order_stays slots s x at stored_key by_key alike.key indexed.key_order;
        lists = written_filed filings.List slots by_key by_list s x at alike.list (λ i. filed (alike.list i) (alike.key i)) indexed.lists;
        users = written_filed filings.User slots by_key by_user s x at alike.user (λ i. filed (alike.user i) (alike.key i)) indexed.users;
        sorts = written_filed filings.Sort slots by_key by_sort s x at alike.list (λ i. filed (alike.list i) (falling (alike.sort i) ++ alike.key i)) indexed.sorts;
      },
      rewritten (λ i. stored_key (row_of slots i)) (row_of slots) (row_of (set slots s x)) by_key i s x (new_row slots s x at) (old_row slots s x at) (in_order-slots stored_key (row_of slots) by_key indexed.key_order) lt is,
    )

-- what an index reads, at any default
pub read_at : {X : Type 0} (xs : List X) (j : ℕ) (x d : X) → j < length xs → x ≡ get_or xs j x → get_or xs j d ≡ x
read_at xs j x d lt is = any_default xs j d x lt ∙ sym is

pub in_standing : (slots : List Stored) (os : List ℕ) (at : ℕ) → at < length (standing slots os) → at < length os
in_standing slots os at lt = rw (length-map os (row_of slots)) at lt

-- the row at a position of an order is that of the slot there
row_at_slot : (slots : List Stored) (os : List ℕ) (at s : ℕ) (d : Stored) → at < length (standing slots os) → s ≡ get_or os at s → get_or (standing slots os) at d ≡ row_of slots s
row_at_slot slots os at s d lt is = get_or-map (row_of slots) os at s d (in_standing slots os at lt) ∙ ap (row_of slots) (sym is)

-- what is read of the slot at a position is the row there
pub row_read : (slots : List Stored) (os : List ℕ) (at s : ℕ) (x : Stored) → AreSlots (length slots) os → at < length os → s ≡ get_or os at s → x ≡ get_or slots s x → x ≡ get_or (standing slots os) at no_row
row_read slots os at s x all lt slot_is x_is =
    let low : s < length slots = subst (λ (i : ℕ). i < length slots) (read_at os at s 0 lt slot_is) (slot_at (length slots) os at all lt) in
    sym (row_at_slot slots os at s no_row (rw (length-map os (row_of slots)) lt) slot_is ∙ read_at slots s x no_row low x_is)

-- the slot at a position is there
pub slot_there : (slots : List Stored) (os : List ℕ) (at s : ℕ) → AreSlots (length slots) os → at < length os → s ≡ get_or os at s → s < length slots
slot_there slots os at s all lt is = subst (λ (i : ℕ). i < length slots) (read_at os at s 0 lt is) (slot_at (length slots) os at all lt)

pub written_at : (slots new : List Stored) (by_key by_list by_user by_sort : List ℕ) (at s : ℕ) (x : Stored) → HasOrders slots by_key by_list by_user by_sort → IsPositionOf stored_key (stored_key x) (standing slots by_key) (Ok at) → s ≡ get_or by_key at s
    → under filings.List (get_or (standing slots by_key) at no_row).0 ≡ under filings.List x.0 → user_of (get_or (standing slots by_key) at no_row).0 ≡ user_of x.0 → sort_of (get_or (standing slots by_key) at no_row).0 ≡ sort_of x.0
    → new ≡ set slots s x → HasOrders new by_key by_list by_user by_sort × (standing new by_key ≡ set (standing slots by_key) at x)
written_at slots new by_key by_list by_user by_sort at s x indexed there slot_is list user sort new_is =
    let lt : at < length by_key = in_standing slots by_key at there.in_range in
    let is : get_or (standing slots by_key) at no_row ≡ row_of slots s = row_at_slot slots by_key at s no_row there.in_range slot_is in
    let alike : IsFiledAs x.0 (row_of slots s).0 =
    record {
      key = found_key stored_key (stored_key x) (standing slots by_key) (get_or (standing slots by_key) at no_row) (there.found no_row) ∙ ap stored_key is;
      list = sym list ∙ ap (λ (y : Stored). under filings.List y.0) is;
      user = sym user ∙ ap (λ (y : Stored). user_of y.0) is;
      sort = sym sort ∙ ap (λ (y : Stored). sort_of y.0) is;
    } in
    written slots new by_key by_list by_user by_sort at s x indexed lt (read_at by_key at s 0 lt slot_is) alike new_is

-- a row whose key has left its place, and a row with that key that is put
pub again_absent : (rows left : List Stored) (k : List ℕ) (at : ℕ) → IsPositionOf stored_key k rows (Ok at) → left ≡ remove rows at → find_by stored_key k left ≡ None
again_absent rows left k at there is = ap (find_by stored_key k) (is ∙ sym there.removed) ∙ find_without stored_key k k rows ∙ ap (λ (b : Bool). cond b None (find_by stored_key k rows)) (equals k)

pub again_put : (rows left : List Stored) (x : Stored) (at : ℕ) → AreRows rows → IsPositionOf stored_key (stored_key x) rows (Ok at) → left ≡ remove rows at → put x left ≡ put x rows
again_put rows left x at order there is =
    ap (put x) (is ∙ sym there.removed)
    ∙ in_order-same stored_key (put x (without stored_key (stored_key x) rows)) (put x rows) (in_order-put stored_key x (without stored_key (stored_key x) rows) (in_order-without stored_key (stored_key x) rows order)) (in_order-put stored_key x rows order) each
  where
    shadowed : (b c : Bool) (o : Option Stored) → (c ≡ true → b ≡ true) → cond b (Some x) (cond c None o) ≡ cond b (Some x) o
    shadowed true c o so = refl
    shadowed false true o so = absurd (let both : false ≡ true = so refl in cc)
    shadowed false false o so = refl

    each : (k : List ℕ) → find_by stored_key k (put x (without stored_key (stored_key x) rows)) ≡ find_by stored_key k (put x rows)
    each k =
        find_put stored_key k x (without stored_key (stored_key x) rows)
        ∙ ap (λ (o : Option Stored). cond (bytes_eq k (stored_key x)) (Some x) o) (find_without stored_key k (stored_key x) rows)
        ∙ shadowed (bytes_eq k (stored_key x)) (bytes_eq (stored_key x) k) (find_by stored_key k rows) (λ e. (bytes_eq-Decides k (stored_key x)).1 (sym ((bytes_eq-Decides (stored_key x) k).0 e)))
        ∙ sym (find_put stored_key k x rows)

-- an order in which the last slot was looked for, by the key of its row
pub struck_from : (key : Stored → List ℕ) (slots : List Stored) (os new : List ℕ) (k : List ℕ) (r : Result ℕ ℕ) (at : Option ℕ) (s last : ℕ) → k ≡ key (row_of slots last) → InOrder key (standing slots os) → IsPositionOf key k (standing slots os) r
    → new ≡ left_out at (renamed r last s os) → new ≡ map (relabelled last s) (left_out at os)
struck_from key slots os new k r at s last k_is sorted there new_is =
    let here : IsPositionOf key (key (row_of slots last)) (standing slots os) r = subst (λ (k : List ℕ). IsPositionOf key k (standing slots os) r) k_is there in
    new_is ∙ ap (left_out at) (renamed_settled key (row_of slots) os last s r sorted here) ∙ sym (map-left at)
  where
    map-left : (at : Option ℕ) → map (relabelled last s) (left_out at os) ≡ left_out at (map (relabelled last s) os)
    map-left None = refl
    map-left (Some j) = map-remove (relabelled last s) os j

-- the slot at a position is among the slots, and so in an order of them where its row is filed
pub held_at : (by : Filing) (slots : List Stored) (os order : List ℕ) (i s : ℕ) → AreSame (filed_slots by slots os) order → i < length os → s ≡ get_or os i s → is_filed by (row_of slots s).0 ≡ true → list_any (eqb s) order ≡ true
held_at by slots os order i s same lt is filed = sym (same (eqb s)) ∙ among os i lt is
  where
    among : (os : List ℕ) (i : ℕ) → i < length os → s ≡ get_or os i s → list_any (eqb s) (filed_slots by slots os) ≡ true
    among [] i lt is = absurd (omega arith)
    among (o ∷ os) zero lt is =
        ap (λ (b : Bool). list_any (eqb s) (cond b (o ∷ filed_slots by slots os) (filed_slots by slots os))) (subst (λ (i : ℕ). is_filed by (row_of slots i).0 ≡ true) is filed)
        ∙ ap (λ (b : Bool). b || list_any (eqb s) (filed_slots by slots os)) ((Decides-eqb s o).1 is)
    among (o ∷ os) (suc i) lt is =
        let later : list_any (eqb s) (filed_slots by slots os) ≡ true = among os i (omega arith) is in
        elim (is_filed by (row_of slots o).0) as (λ b. list_any (eqb s) (cond b (o ∷ filed_slots by slots os) (filed_slots by slots os)) ≡ true) [
          | true ↦ by_flag (λ b. (b || list_any (eqb s) (filed_slots by slots os)) ≡ true) (eqb s o) (λ _. refl) (λ _. later)
          | false ↦ later
        ]

-- The rows that a user sees, as they are read of a table.
use Rattle.std.proofs.Common.{◌≡◌, ℕ, Bool, true, false, cond, List, [], ◌∷◌, map, Some, Result, Ok, Err, IfOk, OnOk, refl, sym, ap, ap₂, ◌∙◌, subst}
use Rattle.std.specs.Borrow.{Bor}
use Rattle.std.specs.List.{AllByRecursion, filter}
use Rattle.rv_base.specs.Sorted.{InOrder}
use Rattle.rv_base.specs.PositionLaws.{Above, differs_back, equals, in_order-filter, in_order-sorted}
use Rattle.rv_base.specs.ArrangedLaws.{sorted-in_order}
use Rattle.rv_rows.specs.declared.key.Key.{Key}
use Rattle.rv_rows.specs.declared.row.Row.{Row}
use Rattle.rv_rows.specs.Keys.{in_key_order, key_text, row_key, row_text}
use Rattle.rv_rows.specs.Held.{Stored, AreRows, find, rows_in, stored_key}
use Rattle.rv_rows.specs.HeldLaws.{in_order-rows}
use Rattle.rv_rows.specs.Sharing.{seen, sees_row}
use Rattle.rv_sharing.specs.Gathered.{keys_at, rows_at, Stand}
use Rattle.rv_sharing.specs.Visible.{visible}
use Rattle.rv_csv.specs.Views.{IsView, view_text}
use Rattle.rv_csv.specs.Exports.{ReadsBack}
use Rattle.rv_csv.proofs.ViewLaws.{gives_again}

abbrev keyed : Stored → Key × ℕ
keyed s = (row_key s.0, s.1)

-- each stored row is found under its key
found_own : (stored : List Stored) → AreRows stored → Stand stored stored
found_own [] h = tt
found_own (s ∷ ss) h = (rw (equals (stored_key s)) refl, behind ss h.0 (found_own ss h.1))
  where
    behind : (xs : List Stored) → Above stored_key (stored_key s) xs → Stand ss xs → Stand (s ∷ ss) xs
    behind [] low all = tt
    behind (x ∷ xs) low all = (rw (differs_back (stored_key s) (stored_key x) low.0) all.0, behind xs low.1 all.1)

all_filter : (P : Stored → Type 0) (p : Stored → Bool) (xs : List Stored) → AllByRecursion P xs → AllByRecursion P (filter p xs)
all_filter P p [] all = tt
all_filter P p (x ∷ xs) all = elim (p x) as (λ b. AllByRecursion P (cond b (x ∷ filter p xs) (filter p xs))) [ true ↦ (all.0, all_filter P p xs all.1) | false ↦ all_filter P p xs all.1 ]

-- rows that stand under the same keys are the same
stand_same : (stored xs ys : List Stored) → Stand stored xs → Stand stored ys → map keyed xs ≡ map keyed ys → xs ≡ ys
stand_same stored [] [] h g same = refl
stand_same stored [] (y ∷ ys) h g same = absurd (cc)
stand_same stored (x ∷ xs) [] h g same = absurd (cc)
stand_same stored (x ∷ xs) (y ∷ ys) h g same =
    let first : keyed x ≡ keyed y = cc in
    let others : map keyed xs ≡ map keyed ys = cc in
    let found : Some x ≡ Some y = sym h.0 ∙ ap (λ (p : Key × ℕ). find (key_text p.0) stored) first ∙ g.0 in
    let one : x ≡ y = cc in
    ap₂ (λ (s : Stored) (ss : List Stored). s ∷ ss) one (stand_same stored xs ys h.1 g.1 others)

-- the rows alone, and those that pass a test of the row
rows_filter : (p : Row → Bool) (stored : List Stored) → rows_in (filter (λ s. p s.0) stored) ≡ filter p (rows_in stored)
rows_filter p [] = refl
rows_filter p (s ∷ ss) =
    elim (p s.0) as (λ b. rows_in (cond b (s ∷ filter (λ s. p s.0) ss) (filter (λ s. p s.0) ss)) ≡ cond b (s.0 ∷ filter p (rows_in ss)) (filter p (rows_in ss))) [
      | true ↦ ap (λ (rows : List Row). s.0 ∷ rows) (rows_filter p ss)
      | false ↦ rows_filter p ss
    ]

keys_at-rows : (rows : List (Bor Row × ℕ)) → keys_at rows ≡ map keyed (rows_at rows)
keys_at-rows [] = refl
keys_at-rows (x ∷ xs) = ap (λ (t : List (Key × ℕ)). (row_key x.0.now, x.1) ∷ t) (keys_at-rows xs)

rows_at-rows : (rows : List (Bor Row × ℕ)) → map (λ pair. pair.0.now) rows ≡ rows_in (rows_at rows)
rows_at-rows [] = refl
rows_at-rows (x ∷ xs) = ap (λ (t : List Row). x.0.now ∷ t) (rows_at-rows xs)

-- what is read under the keys that the user sees is what the user sees
pub rows_seen_are : (user : List ℕ) (stored : List Stored) (rows : List (Bor Row × ℕ)) → AreRows stored → keys_at rows ≡ visible user stored → Stand stored (rows_at rows)
    → map (λ pair. pair.0.now) rows ≡ seen user (rows_in stored)
rows_seen_are user stored rows order keys stand =
    let p : Row → Bool = sees_row user (rows_in stored) in
    let mine : List Stored = filter (λ s. p s.0) stored in
    let same : rows_at rows ≡ mine = stand_same stored (rows_at rows) mine stand (all_filter _ (λ s. p s.0) stored (found_own stored order)) (sym (keys_at-rows rows) ∙ keys) in
    rows_at-rows rows ∙ ap rows_in same ∙ rows_filter p stored
    ∙ ap (filter p) (sym (sorted-in_order row_text (rows_in stored) (in_order-rows stored order)))

-- which is in the order of their keys, and so a view
pub seen_is_view : {T E : Type 0} (user : List ℕ) (rows read : List Row) (made : Result T E) → read ≡ seen user rows → OnOk made (InOrder row_text read → IsView read) → OnOk made (IsView (seen user rows))
seen_is_view user rows read (Ok x) is view =
    let P : List Row → Type 0 = λ xs. InOrder row_text xs → IsView xs in
    subst P is view (in_order-filter row_text (sees_row user rows) (in_key_order rows) (in_order-sorted row_text rows))
seen_is_view user rows read (Err e) is view = tt

-- what reads the text of a view gives its rows
pub reads_back : {E : Type 0} (rows : List Row) (made : Result (List ℕ) E) → IfOk made (λ text. text ≡ view_text rows) → OnOk made (IsView rows) → IfOk made (ReadsBack rows)
reads_back rows (Ok text) is view = λ answer reads. gives_again text answer reads rows view is
reads_back rows (Err e) is view = tt

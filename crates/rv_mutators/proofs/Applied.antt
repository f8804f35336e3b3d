-- Stored rows after what was written and lost is applied: each key finds what it does in the rows afterwards.
use Rattle.std.proofs.Common.{◌≡◌, ℕ, Bool, true, false, cond, ◌&&◌, ◌||◌, List, [], ◌∷◌, map, Option, Some, None, refl, sym, ap, ◌∙◌, subst, not}
use Rattle.std.specs.Str.{bytes_eq}
use Rattle.std.specs.List.{filter, fold, list_any}
use Rattle.std.specs.Option.{option_map, option_map_or, is_some}
use Rattle.std.proofs.lemmas.Slice.Eq.{bytes_eq-Decides}
use Rattle.std.proofs.lemmas.Map.Entries.{option_filter}
use Rattle.rv_base.specs.Sorted.{find_by, InOrder}
use Rattle.rv_base.specs.PositionLaws.{Above, equals, not_same, find_put, find_without, in_order-put, in_order-without, in_order-sorted, in_order-filter, found-sorted}
use Rattle.rv_base.specs.ArrangedLaws.{distinct-in_order, in_order-same, find-filter, find-map}
use Rattle.rv_rows.specs.declared.key.Key.{Key}
use Rattle.rv_rows.specs.declared.row.Row.{Row}
use Rattle.rv_rows.specs.Keys.{key_text, row_key, row_text, has_row, in_key_order}
use Rattle.rv_rows.specs.Held.{Stored, stored_key, rows_in, AreRows, find, put, remove}
use Rattle.rv_rows.specs.HeldLaws.{in_order-rows}
use Rattle.rv_rows.specs.Changes.{same_row, is_new, is_gone, written, lost, version_after}
use Rattle.rv_mutators.specs.Staging.{with_staged}
use Rattle.rv_rows.specs.EffectLaws.{same_row-Decides}
use Rattle.rv_mutators.proofs.Picked.{by_flag, find-key, none_after}
use Rattle.rv_mutators.proofs.Changed.{changes, any_same}

-- rows in order with any versions are stored rows in order
module _ (version : Row → ℕ) where
  above-stored : (k : List ℕ) (rows : List Row) → Above row_text k rows → Above stored_key k (map (λ row. (row, version row)) rows)
  above-stored k [] h = tt
  above-stored k (row ∷ rows) h = (h.0, above-stored k rows h.1)

  pub in_order-stored : (rows : List Row) → InOrder row_text rows → AreRows (map (λ row. (row, version row)) rows)
  in_order-stored [] h = tt
  in_order-stored (row ∷ rows) h = (above-stored (row_text row) rows h.0, in_order-stored rows h.1)

  pub find-stored : (k : List ℕ) (rows : List Row) → find k (map (λ row. (row, version row)) rows) ≡ option_map (λ row. (row, version row)) (find_by row_text k rows)
  find-stored k [] = refl
  find-stored k (row ∷ rows) = elim (bytes_eq k (row_text row)) as (λ b. cond b (Some (row, version row)) (find k (map (λ row. (row, version row)) rows)) ≡ option_map (λ row. (row, version row)) (cond b (Some row) (find_by row_text k rows))) [ true ↦ refl | false ↦ find-stored k rows ]

-- the rows written one by one
in_order-puts : (version : ℕ) (rows : List Row) (stored : List Stored) → AreRows stored → AreRows (fold (λ t row. put (row, version) t) stored rows)
in_order-puts version [] stored h = h
in_order-puts version (row ∷ rows) stored h = in_order-puts version rows (put (row, version) stored) (in_order-put stored_key (row, version) stored h)

find-puts : (version : ℕ) (k : List ℕ) (rows : List Row) (stored : List Stored) → InOrder row_text rows
    → find k (fold (λ t row. put (row, version) t) stored rows) ≡ option_map_or (λ row. Some (row, version)) (find_by row_text k rows) (find k stored)
find-puts version k [] stored h = refl
find-puts version k (row ∷ rows) stored h =
    find-puts version k rows (put (row, version) stored) h.1
    ∙ ap (λ (o : Option Stored). option_map_or (λ row. Some (row, version)) (find_by row_text k rows) o) (find_put stored_key k (row, version) stored)
    ∙ by_flag (λ b. option_map_or (λ row. Some (row, version)) (find_by row_text k rows) (cond b (Some (row, version)) (find k stored)) ≡ option_map_or (λ row. Some (row, version)) (cond b (Some row) (find_by row_text k rows)) (find k stored)) (bytes_eq k (row_text row))
    (λ e. rw (none_after row_text k row rows h e) refl)
    (λ e. refl)

-- the keys removed one by one
in_order-removes : (keys : List Key) (stored : List Stored) → AreRows stored → AreRows (fold (λ t key. remove (key_text key) t) stored keys)
in_order-removes [] stored h = h
in_order-removes (key ∷ keys) stored h = in_order-removes keys (remove (key_text key) stored) (in_order-without stored_key (key_text key) stored h)

find-removes : (k : List ℕ) (keys : List Key) (stored : List Stored)
    → find k (fold (λ t key. remove (key_text key) t) stored keys) ≡ cond (list_any (λ key. bytes_eq (key_text key) k) keys) None (find k stored)
find-removes k [] stored = refl
find-removes k (key ∷ keys) stored =
    find-removes k keys (remove (key_text key) stored)
    ∙ ap (λ (o : Option Stored). cond (list_any (λ key. bytes_eq (key_text key) k) keys) None o) (find_without stored_key k (key_text key) stored)
    ∙ either (bytes_eq (key_text key) k) (list_any (λ key. bytes_eq (key_text key) k) keys) (find k stored)
  where
    either : (a b : Bool) (o : Option Stored) → cond b None (cond a None o) ≡ cond (a || b) None o
    either true true o = refl
    either true false o = refl
    either false b o = refl

-- a key is lost exactly where it was there before and is not afterwards
lost-at : (k : List ℕ) (before after : List Row) → list_any (λ key. bytes_eq (key_text key) k) (lost before after) ≡ (not (has_row k after) && is_some (find_by row_text k before))
unfolding is_gone
lost-at k [] after = elim (has_row k after) as (λ b. false ≡ (not b && false)) [ true ↦ refl | false ↦ refl ]
lost-at k (row ∷ before) after =
    by_flag (λ b. list_any (λ key. bytes_eq (key_text key) k) (lost (row ∷ before) after) ≡ (not (has_row k after) && is_some (cond b (Some row) (find_by row_text k before)))) (bytes_eq k (row_text row))
    (λ e. let one : k ≡ row_text row = (bytes_eq-Decides k (row_text row)).0 e in
    subst (λ (t : List ℕ). list_any (λ key. bytes_eq (key_text key) t) (lost (row ∷ before) after) ≡ (not (has_row t after) && true)) (sym one) (at_own (has_row (row_text row) after) (lost-at (row_text row) before after)))
    (λ e. split (has_row (row_text row) after) ∙ at_other (has_row (row_text row) after) (bytes_eq (row_text row) k) (not_same k (row_text row) e) (lost-at k before after))
  where
    at_own : (b : Bool) → list_any (λ key. bytes_eq (key_text key) (row_text row)) (lost before after) ≡ (not b && is_some (find_by row_text (row_text row) before))
        → list_any (λ key. bytes_eq (key_text key) (row_text row)) (map row_key (cond (not b) (row ∷ filter (is_gone after) before) (filter (is_gone after) before))) ≡ (not b && true)
    at_own true others = others
    at_own false others = rw (equals (row_text row)) refl

    split : (b : Bool) → list_any (λ key. bytes_eq (key_text key) k) (map row_key (cond (not b) (row ∷ filter (is_gone after) before) (filter (is_gone after) before)))
        ≡ (cond (not b) (bytes_eq (row_text row) k || list_any (λ key. bytes_eq (key_text key) k) (lost before after)) (list_any (λ key. bytes_eq (key_text key) k) (lost before after)))
    split true = refl
    split false = refl

    at_other : (b c : Bool) → c ≡ false → list_any (λ key. bytes_eq (key_text key) k) (lost before after) ≡ (not (has_row k after) && is_some (find_by row_text k before))
        → (cond (not b) (c || list_any (λ key. bytes_eq (key_text key) k) (lost before after)) (list_any (λ key. bytes_eq (key_text key) k) (lost before after))) ≡ (not (has_row k after) && is_some (find_by row_text k before))
    at_other true c e others = others
    at_other false c e others = rw e others

-- what stands in the end, where what stood is kept unless it is new or other
module _ (version : ℕ) (stored : List Stored) where
  ends : (row : Row) (found : Option Stored) → find (row_text row) stored ≡ found → list_any (same_row row) (rows_in stored) ≡ option_map_or (same_row row) (option_map (λ s. s.0) found) false
      → option_map_or (λ row. Some (row, version)) (option_filter (is_new (rows_in stored)) (Some row)) found ≡ Some (row, option_map_or (λ s. cond (same_row s.0 row) s.1 version) found version)
  unfolding is_new
  ends row None e any = rw any refl
  ends row (Some s) e any =
      by_flag (λ b. list_any (same_row row) (rows_in stored) ≡ b → option_map_or (λ row. Some (row, version)) (option_filter (is_new (rows_in stored)) (Some row)) (Some s) ≡ Some (row, cond (same_row s.0 row) s.1 version)) (same_row row s.0)
      (λ t f. let same : row ≡ s.0 = (same_row-Decides row s.0).0 t in
      rw (f, (same_row-Decides s.0 row).1 (sym same)) (ap (λ (r : Row). Some (r, s.1)) (sym same)))
      (λ t f. rw (f, other t) refl) any
    where
      other : same_row row s.0 ≡ false → same_row s.0 row ≡ false
      other t = by_flag (λ b. b ≡ false) (same_row s.0 row)
          (λ f. sym ((same_row-Decides row s.0).1 (sym ((same_row-Decides s.0 row).0 f))) ∙ t)
          (λ f. refl)

  module _ (after : List Row) (h : AreRows stored) where
    finds : (k : List ℕ) (found : Option Row) → find_by row_text k (in_key_order after) ≡ found
        → option_map_or (λ row. Some (row, version)) (option_filter (is_new (rows_in stored)) found) (cond (not (is_some found) && is_some (find_by row_text k (rows_in stored))) None (find k stored))
        ≡ option_map (λ row. (row, version_after version stored row)) found
    finds k None e = rw (← find-map row_text (λ s. s.0) k stored) (gone (find k stored))
      where
        gone : (o : Option Stored) → cond (is_some (option_map (λ s. s.0) o)) None o ≡ None
        gone None = refl
        gone (Some s) = refl
    finds k (Some row) e =
        let own : k ≡ row_text row = find-key row_text k (in_key_order after) row e in
        rw own (ends row (find (row_text row) stored) refl (any_same (rows_in stored) row (in_order-rows stored h) ∙ ap (λ (o : Option Row). option_map_or (same_row row) o false) (sym (find-map row_text (λ s. s.0) (row_text row) stored))))

    pub applied-changes : with_staged version (changes (rows_in stored) after) stored ≡ map (λ row. (row, version_after version stored row)) (in_key_order after)
    applied-changes =
        in_order-same stored_key _ _
        (in_order-puts version (written (rows_in stored) after) _ (in_order-removes (lost (rows_in stored) after) stored h))
        (in_order-stored (version_after version stored) (in_key_order after) (in_order-sorted row_text after))
        (λ k. find-puts version k (written (rows_in stored) after) _ (in_order-filter row_text (is_new (rows_in stored)) (in_key_order after) (in_order-sorted row_text after))
        ∙ rw (find-removes k (lost (rows_in stored) after) stored, lost-at k (rows_in stored) after, find-filter row_text (is_new (rows_in stored)) k (in_key_order after) (distinct-in_order row_text (in_key_order after) (in_order-sorted row_text after)), ← found-sorted row_text k after, find-stored (version_after version stored) k (in_key_order after))
        (finds k (find_by row_text k (in_key_order after)) refl))

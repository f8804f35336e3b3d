-- The changes of rows that an act makes: they name each place once, and leave the cells of the rows after the act.
use Rattle.std.proofs.Common.{◌≡◌, ℕ, true, false, cond, not, List, [], ◌∷◌, ◌++◌, Some, None, refl, sym, ap, ◌∙◌, map}
use Rattle.std.specs.List.{AllByRecursion, filter, fold}
use Rattle.std.specs.Option.{option_map}
use Rattle.std.specs.Str.{bytes_eq}
use Rattle.std.proofs.lemmas.List.Sums.{fold-append}
use Rattle.std.proofs.lemmas.Map.Entries.{option_filter}
use Rattle.rv_base.specs.Sorted.{find_by, Distinct}
use Rattle.rv_base.specs.PositionLaws.{found-sorted, none_found}
use Rattle.rv_base.specs.ArrangedLaws.{distinct-sorted, distinct-filter, find-filter, find-map}
use Rattle.rv_rows.specs.declared.call.Call.{Call}
use Rattle.rv_rows.specs.declared.key.Key.{Key}
use Rattle.rv_rows.specs.declared.row.Row.{Row}
use Rattle.rv_rows.specs.Keys.{key_text, row_key, row_text, has_row, in_key_order}
use Rattle.rv_rows.specs.Held.{Stored, stored_key, put, remove}
use Rattle.rv_rows.specs.Effects.{effect}
use Rattle.rv_rows.specs.Changes.{is_new, is_gone, written, lost}
use Rattle.rv_mutators.specs.declared.staged.Staged.{Staged}
use Rattle.rv_mutators.specs.Staging.{with_staged, staged}
use Rattle.rv_keeper.specs.declared.cell.Cell.{Cell}
use Rattle.rv_keeper.specs.declared.change.Change.{Change}
use Rattle.rv_keeper.specs.declared.change.Change.TheVariants.{Put, Remove}
use Rattle.rv_keeper.specs.Cells.{change_key, changed_by, changed}
use Rattle.rv_record.specs.CellTexts.{row_cell}
use Rattle.rv_store.specs.StoreCells.{row_cells}
use Rattle.rv_store.specs.ShelfLaws.{AreOf, all-append, put-cells, without-cells, distinct-changes, absent-changes}
use Rattle.rv_store.specs.EntryChanges.{removed_rows, written_rows, row_changes}

-- what they leave
removed-leave : (keys : List Key) (rows : List Stored) → changed (row_cells rows) (removed_rows keys) ≡ row_cells (fold (λ t key. remove (key_text key) t) rows keys)
removed-leave [] rows = refl
removed-leave (key ∷ keys) rows =
    ap (λ (cells : List Cell). changed cells (removed_rows keys)) (without-cells stored_key 2 (λ s. row_cell s.0 s.1) (λ s. refl) (key_text key) rows) ∙ removed-leave keys (remove (key_text key) rows)

written-leave : (version : ℕ) (new : List Row) (rows : List Stored) → changed (row_cells rows) (written_rows version new) ≡ row_cells (fold (λ t row. put (row, version) t) rows new)
written-leave version [] rows = refl
written-leave version (row ∷ new) rows =
    ap (λ (cells : List Cell). changed cells (written_rows version new)) (put-cells stored_key 2 (λ s. row_cell s.0 s.1) (λ s. refl) (row, version) rows) ∙ written-leave version new (put (row, version) rows)

pub rows-leave : (version : ℕ) (change : Staged) (rows : List Stored) → changed (row_cells rows) (row_changes version change) ≡ row_cells (with_staged version change rows)
rows-leave version change rows =
    fold-append changed_by (row_cells rows) (removed_rows change.keys) (written_rows version change.rows)
    ∙ ap (λ (cells : List Cell). changed cells (written_rows version change.rows)) (removed-leave change.keys rows)
    ∙ written-leave version change.rows (fold (λ t key. remove (key_text key) t) rows change.keys)

-- they are of shelf 2
removed-on : (keys : List Key) → AreOf 2 (removed_rows keys)
removed-on [] = tt
removed-on (key ∷ keys) = (refl, removed-on keys)

written-on : (version : ℕ) (rows : List Row) → AreOf 2 (written_rows version rows)
written-on version [] = tt
written-on version (row ∷ rows) = (refl, written-on version rows)

pub rows-of : (version : ℕ) (change : Staged) → AreOf 2 (row_changes version change)
rows-of version change = all-append _ (removed_rows change.keys) (written_rows version change.rows) (removed-on change.keys) (written-on version change.rows)

-- items of two lists that have no key in common
pub distinct-append : {X : Type 0} (key : X → List ℕ) (xs ys : List X) → Distinct key xs → Distinct key ys → AllByRecursion (λ x. find_by key (key x) ys ≡ None) xs → Distinct key (xs ++ ys)
distinct-append key [] ys once also apart = also
distinct-append {X = X} key (x ∷ xs) ys once also apart = (absent xs once.0, distinct-append key xs ys once.1 also apart.1)
  where
    absent : (zs : List X) → find_by key (key x) zs ≡ None → find_by key (key x) (zs ++ ys) ≡ None
    absent [] none = apart.0
    absent (z ∷ zs) none =
        elim (bytes_eq (key x) (key z)) as (λ b. cond b (Some z) (find_by key (key x) zs) ≡ None → cond b (Some z) (find_by key (key x) (zs ++ ys)) ≡ None) [
          | true ↦ λ h. absurd (cc)
          | false ↦ λ h. absent zs h
        ] none

-- the keys of rows are distinct where the rows' texts are
distinct-keys : (rows : List Row) → Distinct row_text rows → Distinct key_text (map row_key rows)
distinct-keys [] once = tt
distinct-keys (row ∷ rows) once = (sym (find-map key_text row_key (row_text row) rows) ∙ ap (option_map row_key) once.0, distinct-keys rows once.1)

-- of a row that is gone no row is written
not_written : (before after : List Row) (row : Row) → is_gone after row ≡ true → find_by row_text (row_text row) (written before after) ≡ None
unfolding is_gone
not_written before after row gone =
    let k = row_text row in
    let absent : has_row k after ≡ false = (elim (has_row k after) as (λ b. not b ≡ true → b ≡ false) [ true ↦ λ h. absurd (cc) | false ↦ λ h. refl ]) gone in
    find-filter row_text (is_new before) k (in_key_order after) (distinct-sorted row_text after)
    ∙ ap (option_filter (is_new before)) (none_found row_text k (in_key_order after) (found-sorted row_text k after ∙ absent))

-- so no place is both removed and written
removed-apart : (before after : List Row) (version : ℕ) (rows : List Row)
    → AllByRecursion (λ (c : Change). find_by change_key (change_key c) (written_rows version (written before after)) ≡ None) (removed_rows (map row_key (filter (is_gone after) rows)))
removed-apart before after version [] = tt
removed-apart before after version (row ∷ rows) =
    elim (is_gone after row) as (λ b. is_gone after row ≡ b → AllByRecursion (λ (c : Change). find_by change_key (change_key c) (written_rows version (written before after)) ≡ None) (removed_rows (map row_key (cond b (row ∷ filter (is_gone after) rows) (filter (is_gone after) rows))))) [
      | true ↦ λ gone.
          (absent-changes row_text 2 (λ row. Put (row_cell row version)) (λ row. refl) (row_text row) (written before after) (not_written before after row gone), removed-apart before after version rows)
      | false ↦ λ stays. removed-apart before after version rows
    ] refl

-- what a call writes and removes names each place once
pub rows-distinct : (version : ℕ) (rows : List Row) (user : List ℕ) (call : Call) → Distinct row_text rows → Distinct change_key (row_changes version (staged rows user call))
rows-distinct version rows user call once =
    let next = effect rows user call in
    distinct-append change_key (removed_rows (lost rows next)) (written_rows version (written rows next))
    (distinct-changes key_text 2 (λ key. Remove 2 (key_text key)) (λ key. refl) (lost rows next) (distinct-keys (filter (is_gone next) rows) (distinct-filter row_text (is_gone next) rows once)))
    (distinct-changes row_text 2 (λ row. Put (row_cell row version)) (λ row. refl) (written rows next) (distinct-filter row_text (is_new rows) (in_key_order next) (distinct-sorted row_text next)))
    (removed-apart rows next version rows)

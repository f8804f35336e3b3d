-- The entries of a book whose cells are all removed, one after another.
use Rattle.std.proofs.Common.{◌≡◌, ℕ, zero, suc, ◌+◌, ◌-◌, ◌^◌, ◌≤◌, ◌<◌, Bool, cond, not, List, [], ◌∷◌, ◌++◌, length, map, refl, sym, ap, ◌∙◌, arith, append_assoc}
use Rattle.std.specs.List.{range_with_len}
use Rattle.std.proofs.lemmas.List.FromFn.{map-range_with_len_more}
use Rattle.rv_base.specs.Sorted.{without, InOrder}
use Rattle.rv_base.specs.ArrangedLaws.{distinct-in_order}
use Rattle.rv_base.specs.PositionLaws.{Above, equals, without_above}
use Rattle.rv_book.specs.declared.entry.Entry.{Entry}
use Rattle.rv_keeper.specs.declared.cell.Cell.{Cell}
use Rattle.rv_keeper.specs.declared.change.Change.{Change}
use Rattle.rv_keeper.specs.declared.change.Change.TheVariants.{Remove}
use Rattle.rv_keeper.specs.Cells.{cell_key, changed}
use Rattle.rv_record.specs.CellTexts.{ten_digits, entry_cell}
use Rattle.rv_record.specs.PlaceOrderLaws.{ten_digits-order}
use Rattle.rv_store.specs.ClosingChanges.{gone_entries}
use Rattle.rv_store.specs.ShelfLaws.{AreOf, distinct-changes, same_shelf}
use Rattle.rv_store.specs.StoreCells.{entry_cells}
use Rattle.rv_store.specs.StoreOrderLaws.{entries-on}
use Rattle.rv_store.proofs.ShelfParts.{IsPart, Part}

-- places stand in the order of their digits
above_places : (place next count : ℕ) → place < next → next + count ≤ 10 ^ 10 → Above ten_digits (ten_digits place) (range_with_len next count)
above_places place next zero low fits = tt
above_places place next (suc count) low fits = (ten_digits-order place next low (omega (arith, fits)), above_places place (next + 1) count (omega (arith, low)) (omega (arith, fits)))

places_in_order : (place count : ℕ) → place + count ≤ 10 ^ 10 → InOrder ten_digits (range_with_len place count)
places_in_order place zero fits = tt
places_in_order place (suc count) fits = (above_places place (place + 1) count (omega arith) (omega (arith, fits)), places_in_order (place + 1) count (omega (arith, fits)))

above_entries : (place next : ℕ) (entries : List Entry) → place < next → next + length entries ≤ 10 ^ 10 → Above cell_key (1 ∷ ten_digits place) (entry_cells next entries)
above_entries place next [] low fits = tt
above_entries place next (entry ∷ entries) low fits =
    (same_shelf 1 (ten_digits place) (ten_digits next) ∙ ten_digits-order place next low (omega (arith, fits)), above_entries place (next + 1) entries (omega (arith, low)) (omega (arith, fits)))

-- the first goes, and the others stay
first_gone : (place : ℕ) (entry : Entry) (entries : List Entry) → place + length (entry ∷ entries) ≤ 10 ^ 10 → without cell_key (1 ∷ ten_digits place) (entry_cells place (entry ∷ entries)) ≡ entry_cells (place + 1) entries
first_gone place entry entries fits =
    let others : List Cell = entry_cells (place + 1) entries in
    ap (λ (b : Bool). cond (not b) (entry_cell place entry ∷ without cell_key (1 ∷ ten_digits place) others) (without cell_key (1 ∷ ten_digits place) others)) (equals (1 ∷ ten_digits place))
    ∙ without_above cell_key (1 ∷ ten_digits place) others (above_entries place (place + 1) entries (omega arith) (omega (arith, fits)))

entries_go : (place : ℕ) (entries : List Entry) → place + length entries ≤ 10 ^ 10 → changed (entry_cells place entries) (gone_entries place (length entries)) ≡ []
entries_go place [] fits = refl
entries_go place (entry ∷ entries) fits =
    ap (λ (cells : List Cell). changed cells (gone_entries (place + 1) (length entries))) (first_gone place entry entries fits) ∙ entries_go (place + 1) entries (omega (arith, fits))

of_entries : (places : List ℕ) → AreOf 1 (map (λ place. Remove 1 (ten_digits place)) places)
of_entries [] = tt
of_entries (place ∷ places) = (refl, of_entries places)

abbrev pub entries_part : ℕ → List Entry → Part
entries_part place entries = record { shelf = 1; cells = entry_cells place entries; changes = gone_entries place (length entries); left = [] }

pub entries_are : (place : ℕ) (entries : List Entry) → place + length entries ≤ 10 ^ 10 → IsPart (entries_part place entries)
entries_are place entries fits = record {
  on = entries-on place entries;
  own = of_entries (range_with_len place (length entries));
  once =
      distinct-changes ten_digits 1 (λ place. Remove 1 (ten_digits place)) (λ place. refl) (range_with_len place (length entries))
      (distinct-in_order ten_digits (range_with_len place (length entries)) (places_in_order place (length entries) fits));
  leaves = entries_go place entries fits;
}

-- the entries that are removed so far, with the next
pub gone_more : (at before : ℕ) (start so_far more : List Change) (change : Change) → at ≤ before → so_far ≡ start ++ gone_entries (at + 1) (before - at) → change ≡ Remove 1 (ten_digits (before + 1)) → more ≡ so_far ++ change ∷ []
    → more ≡ start ++ gone_entries (at + 1) (before + 1 - at)
gone_more at before start so_far more change from are is grown =
    let count : before + 1 - at ≡ (before - at) + 1 = omega (arith, from) in
    let longer : gone_entries (at + 1) (before + 1 - at) ≡ gone_entries (at + 1) (before - at) ++ change ∷ [] =
    ap (gone_entries (at + 1)) count
    ∙ map-range_with_len_more (λ place. Remove 1 (ten_digits place)) (at + 1) (before - at) (before + 1) (omega (arith, from))
    ∙ ap (λ (c : Change). gone_entries (at + 1) (before - at) ++ c ∷ []) (sym is) in
    grown
    ∙ ap (λ (changes : List Change). changes ++ change ∷ []) are
    ∙ append_assoc start (gone_entries (at + 1) (before - at)) (change ∷ [])
    ∙ ap (λ (changes : List Change). start ++ changes) (sym longer)

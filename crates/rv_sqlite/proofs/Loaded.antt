-- What a load read of a sound table, the table holds.
use Rattle.std.proofs.Common.{◌≡◌, ◌⊎◌, ◌<◌, ◌^◌, ℕ, ℤ, pos, List, [], ◌∷◌, decimal, inl, inr, refl, sym, ap, subst, ◌∙◌}
use Rattle.std.specs.Ordering.{ordering_then}
use Rattle.std.specs.Cmp.{nat_cmp_is}
use Rattle.std.specs.Cmp.Lexicographic.{slice_cmp}
use Rattle.std.specs.Ordering.{nat_cmp}
use Rattle.std.specs.declared.cmp.Ordering.TheVariants.{Less}
use Rattle.sqlite_value.specs.declared.value.Value.TheVariants.{Null, Int, Blob}
use Rattle.sqlite_value.specs.Order.{Row}
use Rattle.sqlite_trees.specs.declared.store.Shape.TheVariants as shape
use Rattle.sqlite_trees.specs.View.{IsShaped}
use Rattle.sqlite_sql.specs.Term.{eval_all}
use Rattle.sqlite_rules.specs.Lists.{Has}
use Rattle.sqlite_rules.proofs.ListLemmas.{all_has, all_from}
use Rattle.sqlite_catalog.specs.Listing.{IsSound}
use Rattle.sqlite.specs.State.{State, Shown}
use Rattle.sqlite.proofs.Callers.{reads_as}
use Rattle.rv_base.specs.Sorted.{InOrder}
use Rattle.rv_keeper.specs.declared.cell.Cell.{Cell}
use Rattle.rv_keeper.specs.declared.loaded.Loaded.{Loaded}
use Rattle.rv_keeper.specs.Cells.{AreCells, cell_key}
use Rattle.rv_sqlite.specs.declared.row_read.RowRead.{RowRead}
use Rattle.rv_sqlite.specs.declared.row_read.RowRead.TheVariants as row_read
use Rattle.rv_sqlite.specs.Rows.{Shows}
use Rattle.rv_sqlite.specs.Loads.{AreLoaded, IsOnlyGeneration, generations_among, all_text}
use Rattle.rv_sqlite.specs.Table.{IsCellAt}
use Rattle.rv_sqlite.specs.Stands.{Stands, cell_row}
use Rattle.rv_sqlite.specs.Steps.{generation_cell}
use Rattle.rv_sqlite.specs.Telling.{IsAll}
use Rattle.rv_sqlite.proofs.CellAt.{low as low_tree}
use Rattle.rv_sqlite.proofs.Meaning.{by_place, all_command, all_means}
use Rattle.rv_sqlite.proofs.Scan.{AreShown, are_shown}
use Rattle.rv_sqlite.proofs.Found.{columns, row_of, read_of, from_among, among_cells, from_generations, among_generations, only_one}
use Rattle.rv_sqlite.specs.HeldLaws.{row_cell_same}
use Rattle.rv_sqlite.proofs.Typed.{HasForm, forms, once, numbered}

-- ---- all cells

-- the cells, and that of the generation where a row tells one
abbrev all_of : List ℕ → Loaded → List Cell
all_of [] loaded = loaded.cells
all_of (number ∷ more) loaded = generation_cell loaded.generation ∷ loaded.cells

is_all : (numbers : List ℕ) (loaded : Loaded) → IsOnlyGeneration numbers loaded.generation → loaded.generation < 2 ^ 64 → AreCells loaded.cells → IsAll loaded (all_of numbers loaded)
is_all [] loaded only low are = record { small = low; shelves = are.shelves; are = inr (only, refl) }
is_all (number ∷ []) loaded only low are = record { small = low; shelves = are.shelves; are = inl refl }
is_all (number ∷ other ∷ more) loaded only low are = absurd only

below : (shelf : ℕ) (key : List ℕ) → 0 < shelf → slice_cmp nat_cmp (0 ∷ []) (shelf ∷ key) ≡ Less
below shelf key low = ap (λ o. ordering_then o (slice_cmp nat_cmp [] key)) (sym (nat_cmp_is 0 shelf Less low))

in_order : (numbers : List ℕ) (loaded : Loaded) → AreCells loaded.cells → InOrder cell_key (all_of numbers loaded)
in_order [] loaded are = are.order
in_order (number ∷ more) loaded are = (
  all_from (λ (c : Cell). slice_cmp nat_cmp (0 ∷ []) (cell_key c) ≡ Less) loaded.cells (λ c h. below c.shelf c.key (all_has (λ (d : Cell). 0 < d.shelf) loaded.cells c are.shelves h)),
  are.order,
)

cell_in : (numbers : List ℕ) (loaded : Loaded) (c : Cell) → Has loaded.cells c → Has (all_of numbers loaded) c
cell_in [] loaded c h = h
cell_in (number ∷ more) loaded c h = inr h

generation_in : (numbers : List ℕ) (loaded : Loaded) (number : ℕ) → IsOnlyGeneration numbers loaded.generation → Has numbers number → Has (all_of numbers loaded) (generation_cell number)
generation_in [] loaded number only h = absurd h
generation_in (first ∷ more) loaded number only h = inl (ap generation_cell (sym (only_one (first ∷ more) number loaded.generation only h)))

from_all : (numbers : List ℕ) (loaded : Loaded) (c : Cell) → IsOnlyGeneration numbers loaded.generation → Has (all_of numbers loaded) c
    → Has loaded.cells c ⊎ (Has numbers loaded.generation × (c ≡ generation_cell loaded.generation))
from_all [] loaded c only h = inl h
from_all (number ∷ []) loaded c only (inl same) = inr (inl only, same)
from_all (number ∷ []) loaded c only (inr later) = inl later
from_all (number ∷ other ∷ more) loaded c only h = absurd only

-- ---- a row by its form

same_int : (m n : ℤ) → ◌≡◌ {A = _} (Int m) (Int n) → m ≡ n
same_int m n e = cc

same_blob : (s t : List ℕ) → ◌≡◌ {A = _} (Blob s) (Blob t) → s ≡ t
same_blob s t e = cc

row_is : (number : ℤ) (shelf other : ℤ) (key word body text : List ℕ) → shelf ≡ other → key ≡ word → body ≡ text
    → ◌≡◌ {A = Row} (Int number ∷ Int shelf ∷ Blob key ∷ Blob body ∷ []) (Int number ∷ Int other ∷ Blob word ∷ Blob text ∷ [])
row_is number shelf other key word body text s k b = cc

module _ (number shelf : ℤ) (key body : List ℕ) where
  as_cell : (c : Cell) → Shows (Int shelf ∷ Blob key ∷ Blob body ∷ []) (row_read.Cell c) → Int number ∷ Int shelf ∷ Blob key ∷ Blob body ∷ [] ≡ cell_row number c
  as_cell c h = row_is number shelf (pos c.shelf) key c.key body c.body (same_int _ _ h.shelf_is ∙ h.stands.0) (same_blob _ _ h.key_is ∙ sym h.stands.2) (same_blob _ _ h.body_is ∙ sym h.stands.3)

  as_generation : (n : ℕ) → Shows (Int shelf ∷ Blob key ∷ Blob body ∷ []) (row_read.Generation n) → Int number ∷ Int shelf ∷ Blob key ∷ Blob body ∷ [] ≡ cell_row number (generation_cell n)
  as_generation n h = row_is number shelf (pos 0) key [] body (decimal n) (same_int _ _ h.shelf_is ∙ h.stands.0) (same_blob _ _ h.key_is ∙ h.stands.1) (same_blob _ _ h.body_is ∙ h.stands.2)

-- ---- the rows of the table, and those that are shown

module _ (table rows : List Row) (loaded : Loaded) (formed : (row : Row) → Has table row → HasForm row) (shown : AreShown [] columns table [] rows) (read : AreLoaded rows loaded) where
  abbrev numbers : List ℕ
  numbers = generations_among read.reads

  -- the row's columns are shown
  is_shown : (row : Row) (h : Has table row) → let f = formed row h in Has rows (Int f.1 ∷ Blob f.2 ∷ Blob f.3 ∷ [])
  is_shown row h = let f = formed row h in subst (λ (z : Row). Has rows (eval_all columns ([] ∷ z ∷ []))) f.4 (shown.complete row h refl)

  stands_for : (row : Row) → Has table row → (number : ℤ) × (c : Cell) × (row ≡ cell_row number c) × Has (all_of numbers loaded) c
  stands_for row h =
      let f = formed row h in
      let r = read_of rows read.reads (Int f.1 ∷ Blob f.2 ∷ Blob f.3 ∷ []) read.shown (is_shown row h) in
      go r.0 r.1 r.2
    where
      go : (one : RowRead) → Has read.reads one → (let f = formed row h in Shows (Int f.1 ∷ Blob f.2 ∷ Blob f.3 ∷ []) one) → (number : ℤ) × (c : Cell) × (row ≡ cell_row number c) × Has (all_of numbers loaded) c
      go (row_read.Cell c) there shows =
          let f = formed row h in
          (f.0, c, f.4 ∙ as_cell f.0 f.1 f.2 f.3 c shows, cell_in numbers loaded c (subst (λ l. Has l c) (sym read.cells) (among_cells read.reads c there)))
      go (row_read.Generation n) there shows =
          let f = formed row h in
          (f.0, generation_cell n, f.4 ∙ as_generation f.0 f.1 f.2 f.3 n shows, generation_in numbers loaded n read.generation (among_generations read.reads n there))

  -- a row that is shown is that of a row of the table
  is_of : (row : Row) → Has rows row → (number : ℤ) × (shelf : ℤ) × (key : List ℕ) × (body : List ℕ) × Has table (Int number ∷ Int shelf ∷ Blob key ∷ Blob body ∷ []) × (row ≡ Int shelf ∷ Blob key ∷ Blob body ∷ [])
  is_of row h =
      let r = shown.sound row h in
      let f = formed r.0 r.1 in
      (f.0, f.1, f.2, f.3, subst (Has table) f.4 r.1, r.3 ∙ ap (λ (z : Row). eval_all columns ([] ∷ z ∷ [])) f.4)

  kept_cell : (c : Cell) → Has loaded.cells c → (number : ℤ) × Has table (cell_row number c)
  kept_cell c h =
      let r = row_of rows read.reads (row_read.Cell c) read.shown (from_among read.reads c (subst (λ l. Has l c) read.cells h)) in
      let f = is_of r.0 r.1 in
      (f.0, subst (Has table) (as_cell f.0 f.1 f.2 f.3 c (subst (λ (row : Row). Shows row (row_read.Cell c)) f.5 r.2)) f.4)

  kept_generation : (n : ℕ) → Has numbers n → (number : ℤ) × Has table (cell_row number (generation_cell n))
  kept_generation n h =
      let r = row_of rows read.reads (row_read.Generation n) read.shown (from_generations read.reads n h) in
      let f = is_of r.0 r.1 in
      (f.0, subst (Has table) (as_generation f.0 f.1 f.2 f.3 n (subst (λ (row : Row). Shows row (row_read.Generation n)) f.5 r.2)) f.4)

  kept : (c : Cell) → Has (all_of numbers loaded) c → (number : ℤ) × Has table (cell_row number c)
  kept c h = elim (from_all numbers loaded c read.generation h) [
    | inl cell ↦ kept_cell c cell
    | inr is ↦ subst (λ (d : Cell). (number : ℤ) × Has table (cell_row number d)) (sym is.1) (kept_generation loaded.generation is.0)
  ]

-- What is shown of a sound table and loaded, its rows stand for.
pub loaded_stands : (old new : State) (at tree : ℕ) (rows : List Row) (loaded : Loaded) → IsCellAt old.now.schema at tree → IsSound old.now.schema old.now.trees → IsShaped shape.Table (old.now.trees tree)
    → Shown all_text [] old new rows → AreLoaded rows loaded → AreCells loaded.cells → loaded.generation < 2 ^ 64 → (all : List Cell) × IsAll loaded all × Stands (old.now.trees tree) all
loaded_stands old new at tree rows loaded is sound shaped h read are low =
    let table = old.now.trees tree in
    let it = all_means old.now.schema at tree is in
    let shown = are_shown tree (low_tree old.now.schema at tree is) [] columns by_place old.now.trees [] rows ((reads_as all_text [] old new old.now.schema refl (all_command tree) it.is it.plain it.unlisted rows h).answer Null) in
    let formed = forms old.now.schema at tree is old.now.trees sound shaped in
    let told = generations_among read.reads in (
      all_of told loaded,
      is_all told loaded read.generation low are,
      record {
        order = in_order told loaded are;
        read = stands_for table rows loaded formed shown read;
        kept = kept table rows loaded formed shown read;
        once = once old.now.schema at tree is old.now.trees sound shaped;
        numbered = λ i one two p q. row_cell_same i i one two (numbered old.now.schema at tree is old.now.trees sound shaped i (cell_row i one) (cell_row i two) p q refl refl);
      },
    )

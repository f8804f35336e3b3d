-- What is loaded of a table that holds something is what it holds.
use Rattle.std.proofs.Common.{◌≡◌, ◌<◌, ◌^◌, ℕ, ℤ, pos, List, [], ◌∷◌, inl, inr, refl, sym, ap, subst, ◌∙◌, arith}
use Rattle.std.proofs.lemmas.Fmt.{decimal_injective}
use Rattle.sqlite_value.specs.declared.value.Value.TheVariants.{Null, Int, Blob}
use Rattle.sqlite_value.specs.Order.{Row}
use Rattle.sqlite_sql.specs.Term.{Term, col, eval_all}
use Rattle.sqlite_rules.specs.Lists.{Has}
use Rattle.sqlite_rules.proofs.ListLemmas.{all_has}
use Rattle.sqlite.specs.State.{State, Shown}
use Rattle.sqlite.proofs.Callers.{reads_as}
use Rattle.rv_keeper.specs.declared.cell.Cell.{Cell}
use Rattle.rv_keeper.specs.declared.loaded.Loaded.{Loaded}
use Rattle.rv_keeper.specs.Cells.{AreCells}
use Rattle.rv_sqlite.specs.declared.row_read.RowRead.{RowRead}
use Rattle.rv_sqlite.specs.declared.row_read.RowRead.TheVariants as row_read
use Rattle.rv_sqlite.specs.Rows.{Shows}
use Rattle.rv_sqlite.specs.Loads.{AllShow, AreLoaded, IsOnlyGeneration, cells_among, generations_among, all_text}
use Rattle.rv_sqlite.specs.Table.{IsCellAt}
use Rattle.rv_sqlite.specs.Stands.{Stands, cell_row}
use Rattle.rv_sqlite.specs.Steps.{generation_cell}
use Rattle.rv_sqlite.specs.Telling.{IsAll}
use Rattle.rv_sqlite.proofs.CellAt.{low as low_tree}
use Rattle.rv_sqlite.proofs.Meaning.{by_place, all_command, all_means}
use Rattle.rv_sqlite.proofs.Scan.{AreShown, are_shown}
use Rattle.rv_sqlite.specs.HeldLaws.{loaded_same, ordered_same}
use Rattle.rv_sqlite.proofs.Told.{in_order}

-- the columns of a cell's row
abbrev pub shown_row : Cell → Row
shown_row c = Int (pos c.shelf) ∷ Blob c.key ∷ Blob c.body ∷ []

same_int : (m n : ℤ) → ◌≡◌ {A = _} (Int m) (Int n) → m ≡ n
same_int m n e = cc

same_blob : (s t : List ℕ) → ◌≡◌ {A = _} (Blob s) (Blob t) → s ≡ t
same_blob s t e = cc

same_pos : (m n : ℕ) → ◌≡◌ {A = ℤ} (pos m) (pos n) → m ≡ n
same_pos m n e = cc

made_same : (c d : Cell) → c.shelf ≡ d.shelf → c.key ≡ d.key → c.body ≡ d.body → c ≡ d
made_same c d s k b = λ t. record { shelf = s t; key = k t; body = b t }

-- a cell's row that is read as a cell
shows_cell : (c d : Cell) → Shows (shown_row c) (row_read.Cell d) → (c ≡ d) × (0 < d.shelf)
shows_cell c d h = (
  made_same c d (same_pos c.shelf d.shelf (same_int _ _ h.shelf_is ∙ h.stands.0)) (same_blob _ _ h.key_is ∙ sym h.stands.2) (same_blob _ _ h.body_is ∙ sym h.stands.3),
  h.stands.1,
)

-- and one that is read as a generation
shows_generation : (c : Cell) (n : ℕ) → Shows (shown_row c) (row_read.Generation n) → c ≡ generation_cell n
shows_generation c n h = made_same c (generation_cell n) (same_pos c.shelf 0 (same_int _ _ h.shelf_is ∙ h.stands.0)) (same_blob _ _ h.key_is ∙ h.stands.1) (same_blob _ _ h.body_is ∙ h.stands.2)

-- rows and what they are read as, in turn
pub row_of : (rows : List Row) (reads : List RowRead) (read : RowRead) → AllShow rows reads → Has reads read → (row : Row) × Has rows row × Shows row read
row_of [] [] read all h = absurd h
row_of [] (one ∷ reads) read all h = absurd all
row_of (row ∷ rows) [] read all h = absurd all
row_of (row ∷ rows) (one ∷ reads) read all (inl same) = (row, inl refl, subst (Shows row) (sym same) all.0)
row_of (row ∷ rows) (one ∷ reads) read all (inr later) = let r = row_of rows reads read all.1 later in (r.0, inr r.1, r.2)

pub read_of : (rows : List Row) (reads : List RowRead) (row : Row) → AllShow rows reads → Has rows row → (read : RowRead) × Has reads read × Shows row read
read_of [] [] row all h = absurd h
read_of [] (one ∷ reads) row all h = absurd h
read_of (other ∷ rows) [] row all h = absurd all
read_of (other ∷ rows) (one ∷ reads) row all (inl same) = (one, inl refl, subst (λ (r : Row). Shows r one) (sym same) all.0)
read_of (other ∷ rows) (one ∷ reads) row all (inr later) = let r = read_of rows reads row all.1 later in (r.0, inr r.1, r.2)

pub from_among : (reads : List RowRead) (c : Cell) → Has (cells_among reads) c → Has reads (row_read.Cell c)
from_among [] c h = absurd h
from_among (row_read.Cell d ∷ reads) c (inl same) = inl (ap row_read.Cell same)
from_among (row_read.Cell d ∷ reads) c (inr later) = inr (from_among reads c later)
from_among (row_read.Generation n ∷ reads) c h = inr (from_among reads c h)

pub among_cells : (reads : List RowRead) (c : Cell) → Has reads (row_read.Cell c) → Has (cells_among reads) c
among_cells [] c h = absurd h
among_cells (row_read.Cell d ∷ reads) c (inl same) = inl (let e : c ≡ d = cc in e)
among_cells (row_read.Cell d ∷ reads) c (inr later) = inr (among_cells reads c later)
among_cells (row_read.Generation n ∷ reads) c (inl same) = absurd (let e = same in cc)
among_cells (row_read.Generation n ∷ reads) c (inr later) = among_cells reads c later

pub from_generations : (reads : List RowRead) (n : ℕ) → Has (generations_among reads) n → Has reads (row_read.Generation n)
from_generations [] n h = absurd h
from_generations (row_read.Cell d ∷ reads) n h = inr (from_generations reads n h)
from_generations (row_read.Generation m ∷ reads) n (inl same) = inl (ap row_read.Generation same)
from_generations (row_read.Generation m ∷ reads) n (inr later) = inr (from_generations reads n later)

pub among_generations : (reads : List RowRead) (n : ℕ) → Has reads (row_read.Generation n) → Has (generations_among reads) n
among_generations [] n h = absurd h
among_generations (row_read.Cell d ∷ reads) n (inl same) = absurd (let e = same in cc)
among_generations (row_read.Cell d ∷ reads) n (inr later) = among_generations reads n later
among_generations (row_read.Generation m ∷ reads) n (inl same) = inl (let e : n ≡ m = cc in e)
among_generations (row_read.Generation m ∷ reads) n (inr later) = inr (among_generations reads n later)

pub only_one : (numbers : List ℕ) (n generation : ℕ) → IsOnlyGeneration numbers generation → Has numbers n → generation ≡ n
only_one [] n generation only h = absurd h
only_one (m ∷ []) n generation only (inl same) = only ∙ sym same
only_one (m ∷ []) n generation only (inr none) = absurd none
only_one (m ∷ other ∷ more) n generation only h = absurd only

none_there : (numbers : List ℕ) (generation : ℕ) → IsOnlyGeneration numbers generation → ((n : ℕ) → ¬ Has numbers n) → generation ≡ 0
none_there [] generation only none = only
none_there (m ∷ numbers) generation only none = absurd (none m (inl refl))

abbrev pub columns : List Term
columns = col 1 1 ∷ col 1 2 ∷ col 1 3 ∷ []

module _ (table rows : List Row) (held loaded : Loaded) (all : List Cell) (stands : Stands table all) (whole : IsAll held all) (shown : AreShown [] columns table [] rows) (read : AreLoaded rows loaded) where
  -- a row that is shown is that of a cell
  of_cell : (row : Row) → Has rows row → (c : Cell) × Has all c × (row ≡ shown_row c)
  of_cell row h =
      let r = shown.sound row h in
      let e = stands.read r.0 r.1 in
      (e.1, e.3, r.3 ∙ ap (λ (z : Row). eval_all columns ([] ∷ z ∷ [])) e.2)

  -- and that of each cell is shown
  is_shown : (c : Cell) → Has all c → Has rows (shown_row c)
  is_shown c h = let row = stands.kept c h in shown.complete (cell_row row.0 c) row.1 refl

  not_at_zero : (c : Cell) → Has held.cells c → 0 < c.shelf
  not_at_zero c h = all_has (λ (d : Cell). 0 < d.shelf) held.cells c whole.shelves h

  among_all : (c : Cell) → Has held.cells c → Has all c
  among_all c h = elim whole.are [ inl a ↦ subst (λ l. Has l c) (sym a) (inr h) | inr a ↦ subst (λ l. Has l c) (sym a.1) h ]

  among_held : (c : Cell) → Has all c → 0 < c.shelf → Has held.cells c
  among_held c h low = elim whole.are [
    | inl a ↦ elim (subst (λ l. Has l c) a h) [ inl is ↦ absurd (let s = ap (λ (z : Cell). z.shelf) is in omega (arith, low, s)) | inr later ↦ later ]
    | inr a ↦ subst (λ l. Has l c) a.1 h
  ]

  loaded_in : (c : Cell) → Has loaded.cells c → Has held.cells c
  loaded_in c h =
      let r = row_of rows read.reads (row_read.Cell c) read.shown (from_among read.reads c (subst (λ l. Has l c) read.cells h)) in
      let d = of_cell r.0 r.1 in
      let is = shows_cell d.0 c (subst (λ (row : Row). Shows row (row_read.Cell c)) d.2 r.2) in
      among_held c (subst (Has all) is.0 d.1) is.1

  held_in : (c : Cell) → Has held.cells c → Has loaded.cells c
  held_in c h =
      let r = read_of rows read.reads (shown_row c) read.shown (is_shown c (among_all c h)) in
      go r.0 r.1 r.2
    where
      go : (one : RowRead) → Has read.reads one → Shows (shown_row c) one → Has loaded.cells c
      go (row_read.Cell d) there shows = subst (λ l. Has l c) (sym read.cells) (among_cells read.reads c (subst (λ (z : Cell). Has read.reads (row_read.Cell z)) (sym (shows_cell c d shows).0) there))
      go (row_read.Generation n) there shows = absurd (let s = ap (λ (z : Cell). z.shelf) (shows_generation c n shows) in omega (arith, not_at_zero c h, s))

  pub same_held_cells : AreCells loaded.cells → held.cells ≡ loaded.cells
  same_held_cells are = ordered_same held.cells loaded.cells (in_order held all whole stands.order) are.order held_in loaded_in

  -- the generation's row tells it
  told : (n : ℕ) → Has all (generation_cell n) → n < 2 ^ 64 → loaded.generation < 2 ^ 64 → n ≡ loaded.generation
  told n h small low =
      let r = read_of rows read.reads (shown_row (generation_cell n)) read.shown (is_shown (generation_cell n) h) in
      go r.0 r.1 r.2
    where
      go : (one : RowRead) → Has read.reads one → Shows (shown_row (generation_cell n)) one → n ≡ loaded.generation
      go (row_read.Cell d) there shows = absurd (let is = shows_cell (generation_cell n) d shows in let s = ap (λ (z : Cell). z.shelf) is.0 in omega (arith, is.1, s))
      go (row_read.Generation m) there shows =
          let only = only_one (generations_among read.reads) m loaded.generation read.generation (among_generations read.reads m there) in
          decimal_injective n m small (omega (arith, only, low)) (ap (λ (z : Cell). z.body) (shows_generation (generation_cell n) m shows)) ∙ sym only

  -- no row tells one
  none_told : all ≡ held.cells → loaded.generation ≡ 0
  none_told is = none_there (generations_among read.reads) loaded.generation read.generation (λ n h.
      let r = row_of rows read.reads (row_read.Generation n) read.shown (from_generations read.reads n h) in
      let d = of_cell r.0 r.1 in
      let gone = shows_generation d.0 n (subst (λ (row : Row). Shows row (row_read.Generation n)) d.2 r.2) in
      let low = not_at_zero d.0 (subst (λ l. Has l d.0) is d.1) in
      let s = ap (λ (z : Cell). z.shelf) gone in omega (arith, low, s))

  pub same_generation : loaded.generation < 2 ^ 64 → held.generation ≡ loaded.generation
  same_generation low = elim whole.are [
    | inl a ↦ told held.generation (subst (λ l. Has l (generation_cell held.generation)) (sym a) (inl refl)) whole.small low
    | inr a ↦ a.0 ∙ sym (none_told a.1)
  ]

-- What is shown of the table and loaded is what it holds.
pub found_held : (old new : State) (at tree : ℕ) (rows : List Row) (held loaded : Loaded) (all : List Cell) → IsCellAt old.now.schema at tree → Shown all_text [] old new rows → IsAll held all → Stands (old.now.trees tree) all → AreLoaded rows loaded
    → AreCells loaded.cells → loaded.generation < 2 ^ 64 → held ≡ loaded
found_held old new at tree rows held loaded all is h whole stands read are low =
    let it = all_means old.now.schema at tree is in
    let shown = are_shown tree (low_tree old.now.schema at tree is) [] columns by_place old.now.trees [] rows ((reads_as all_text [] old new old.now.schema refl (all_command tree) it.is it.plain it.unlisted rows h).answer Null) in
    loaded_same held loaded (same_held_cells (old.now.trees tree) rows held loaded all stands whole shown read are) (same_generation (old.now.trees tree) rows held loaded all stands whole shown read low)

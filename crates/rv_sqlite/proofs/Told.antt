-- What the rows stand for as a store, the cell of the generation among them, and what a commit and a crash make of it.
use Rattle.std.proofs.Common.{◌≡◌, ◌<◌, ◌^◌, ℕ, false, cond, not, List, [], ◌∷◌, Option, Some, None, inl, inr, refl, sym, ap, subst, ◌∙◌}
use Rattle.std.specs.List.{AllByRecursion}
use Rattle.std.specs.Ordering.{nat_cmp, ordering_then, match_ordering}
use Rattle.std.specs.Cmp.{nat_cmp_is}
use Rattle.std.specs.Cmp.Lexicographic.{slice_cmp}
use Rattle.std.specs.Str.{bytes_eq}
use Rattle.std.specs.declared.cmp.Ordering.TheVariants.{Less, Greater}
use Rattle.std.proofs.lemmas.Cmp.{tied_itself, nat_list_cmp_total}
use Rattle.sqlite_trees.specs.Tree.{Trees}
use Rattle.sqlite.specs.Effect.{Database}
use Rattle.sqlite.specs.State.{State}
use Rattle.rv_base.specs.Sorted.{InOrder, put_by, without}
use Rattle.rv_base.specs.PositionLaws.{differs_back}
use Rattle.rv_keeper.specs.declared.cell.Cell.{Cell}
use Rattle.rv_keeper.specs.declared.change.Change.{Change}
use Rattle.rv_keeper.specs.declared.change.Change.TheVariants.{Put, Remove}
use Rattle.rv_keeper.specs.declared.loaded.Loaded.{Loaded}
use Rattle.rv_keeper.specs.Cells.{cell_key, change_shelf, changed_by, changed, AreChanges, AreCells}
use Rattle.rv_keeper.specs.Keeping.{holding}
use Rattle.rv_keeper.proofs.Changed.{are_cells_changed}
use Rattle.rv_sqlite.specs.Stands.{HasCells, Stands}
use Rattle.rv_sqlite.specs.Steps.{generation_cell, all_next}
use Rattle.rv_sqlite.specs.Telling.{IsAll, HasTable, StandFor, LeftHolding, MayLeave}
use Rattle.rv_sqlite.specs.HeldLaws.{stand_same}

-- ---- after a commit

-- the place of a cell of the store is above that of the generation
above : (shelf : ℕ) (key : List ℕ) → 0 < shelf → slice_cmp nat_cmp (shelf ∷ key) (0 ∷ []) ≡ Greater
above shelf key low = ap (λ o. ordering_then o (slice_cmp nat_cmp key [])) (sym (nat_cmp_is shelf 0 Greater low))

below : (shelf : ℕ) (key : List ℕ) → 0 < shelf → slice_cmp nat_cmp (0 ∷ []) (shelf ∷ key) ≡ Less
below shelf key low = ap (λ o. ordering_then o (slice_cmp nat_cmp [] key)) (sym (nat_cmp_is 0 shelf Less low))

kept_other : (a b : List ℕ) (c : Cell) (cells : List Cell) → bytes_eq a b ≡ false → cond (not (bytes_eq a b)) (c ∷ cells) cells ≡ c ∷ cells
kept_other a b c cells e = ap (λ t. cond (not t) (c ∷ cells) cells) e

past : (x : Change) (g : ℕ) (cells : List Cell) → 0 < change_shelf x → changed_by (generation_cell g ∷ cells) x ≡ generation_cell g ∷ changed_by cells x
past (Put c) g cells low = ap (λ o. match_ordering o (c ∷ generation_cell g ∷ cells) (c ∷ cells) (generation_cell g ∷ put_by cell_key c cells)) (above c.shelf c.key low)
past (Remove shelf key) g cells low = kept_other (shelf ∷ key) (0 ∷ []) (generation_cell g) (without cell_key (shelf ∷ key) cells) (differs_back (0 ∷ []) (shelf ∷ key) (below shelf key low))

all_past : (xs : List Change) (g : ℕ) (cells : List Cell) → AllByRecursion (λ x. 0 < change_shelf x) xs → changed (generation_cell g ∷ cells) xs ≡ generation_cell g ∷ changed cells xs
all_past [] g cells h = refl
all_past (x ∷ xs) g cells h = ap (λ l. changed l xs) (past x g cells h.0) ∙ all_past xs g (changed_by cells x) h.1

all_cells : (xs : List Change) (cells : List Cell) → AllByRecursion (λ x. 0 < change_shelf x) xs → AreCells cells → AreCells (changed cells xs)
all_cells [] cells h are = are
all_cells (x ∷ xs) cells h are = all_cells xs (changed_by cells x) h.1 (are_cells_changed cells x are h.0)

-- the generation's cell takes the place of the one before, or is the first
put_over : (g h : ℕ) (cells : List Cell) → put_by cell_key (generation_cell g) (generation_cell h ∷ cells) ≡ generation_cell g ∷ cells
put_over g h cells = ap (λ o. match_ordering o (generation_cell g ∷ generation_cell h ∷ cells) (generation_cell g ∷ cells) (generation_cell h ∷ put_by cell_key (generation_cell g) cells)) (tied_itself nat_list_cmp_total (0 ∷ []))

put_first : (g : ℕ) (cells : List Cell) → AllByRecursion (λ (d : Cell). 0 < d.shelf) cells → put_by cell_key (generation_cell g) cells ≡ generation_cell g ∷ cells
put_first g [] all = refl
put_first g (d ∷ ds) all = ap (λ o. match_ordering o (generation_cell g ∷ d ∷ ds) (generation_cell g ∷ ds) (d ∷ put_by cell_key (generation_cell g) ds)) (below d.shelf d.key all.0)

pub in_order : (c : Loaded) (all : List Cell) → IsAll c all → InOrder cell_key all → InOrder cell_key c.cells
in_order c all p up = elim p.are [ inl a ↦ (subst (InOrder cell_key) a up).1 | inr a ↦ subst (InOrder cell_key) a.1 up ]

-- all cells after changes, the generation's first
next_is : (generation : ℕ) (changes : List Change) (c : Loaded) (all : List Cell) → AreChanges changes → InOrder cell_key all → IsAll c all → all_next generation changes all ≡ generation_cell generation ∷ changed c.cells changes
next_is generation changes c all are up p =
    let after = all_cells changes c.cells are.shelves (record { order = in_order c all p up; shelves = p.shelves }) in
    elim p.are [
      | inl a ↦ ap (λ l. put_by cell_key (generation_cell generation) (changed l changes)) a ∙ ap (put_by cell_key (generation_cell generation)) (all_past changes c.generation c.cells are.shelves)
          ∙ put_over generation c.generation (changed c.cells changes)
      | inr a ↦ ap (λ l. put_by cell_key (generation_cell generation) (changed l changes)) a.1 ∙ put_first generation (changed c.cells changes) after.shelves
    ]

pub written_all : (generation : ℕ) (changes : List Change) (c : Loaded) (all : List Cell) → generation < 2 ^ 64 → AreChanges changes → InOrder cell_key all → IsAll c all
    → IsAll (holding (changed c.cells changes) generation) (all_next generation changes all)
written_all generation changes c all low are up p = record {
  small = low;
  shelves = (all_cells changes c.cells are.shelves (record { order = in_order c all p up; shelves = p.shelves })).shelves;
  are = inl (next_is generation changes c all are up p);
}

-- A database that has these has the table.
pub has_table : (db : Database) (generation : ℕ) (changes : List Change) (c : Loaded) (all : List Cell) → AreChanges changes → InOrder cell_key all → IsAll c all → HasCells db (all_next generation changes all)
    → HasTable db (holding (changed c.cells changes) generation)
has_table db generation changes c all are up p has =
    let is = next_is generation changes c all are up p in
    elim has.are [
      | inl there ↦ record { at = there.0; tree = there.1; is = there.2; rows = subst (Stands (db.trees there.1)) is there.3 }
      | inr none ↦ absurd (let e = sym is ∙ none.1 in cc)
    ]

-- the cells of a database are in order
pub has_order : (db : Database) (cells : List Cell) → HasCells db cells → InOrder cell_key cells
has_order db cells h = elim h.are [ inl there ↦ there.3.order | inr none ↦ subst (InOrder cell_key) (sym none.1) tt ]

-- the trees of a database that holds something hold it
pub left_by : (db : Database) (held : Loaded) → StandFor db held → LeftHolding db.trees held
left_by db held h = (db.schema, h)

-- an outcome that holds this holds nothing else
pub leaves_one : (s : State) (db : Database) (c : Loaded) (x : Option Loaded) → StandFor db c → MayLeave s x → ((trees : Trees) → s.may_leave trees → trees ≡ db.trees) → x ≡ Some c
leaves_one s db c (Some d) p h only = ap Some (stand_same (record { schema = h.2.0; trees = h.0 }) db d c (only h.0 h.1) h.2.1 p)
leaves_one s db c None p h only = absurd (h.2 c (subst (λ t. LeftHolding t c) (sym (only h.0 h.1)) (left_by db c p)))

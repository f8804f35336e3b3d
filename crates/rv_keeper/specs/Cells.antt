-- Cells in the order of their shelves and then of their keys, and what changes make of them.
use Rattle.std.specs.Prelude.{ℕ, ◌<◌, List, ◌∷◌, fold}
use Rattle.std.specs.List.{AllByRecursion}
use Rattle.rv_base.specs.Sorted.{InOrder, Distinct, put_by, without}
use Rattle.rv_keeper.specs.declared.cell.Cell.{Cell}
use Rattle.rv_keeper.specs.declared.change.Change.{Change}
use Rattle.rv_keeper.specs.declared.change.Change.TheVariants.{Put, Remove}

-- the place of a cell: its shelf, and then the bytes of its key
abbrev pub cell_key : Cell → List ℕ
cell_key cell = cell.shelf ∷ cell.key

-- the place that a change names
abbrev pub change_key : Change → List ℕ
change_key (Put cell) = cell_key cell
change_key (Remove shelf key) = shelf ∷ key

abbrev pub change_shelf : Change → ℕ
change_shelf (Put cell) = cell.shelf
change_shelf (Remove shelf key) = shelf

-- the cells after one change
abbrev pub changed_by : List Cell → Change → List Cell
changed_by cells (Put cell) = put_by cell_key cell cells
changed_by cells (Remove shelf key) = without cell_key (shelf ∷ key) cells

-- the cells after all the changes
abbrev pub changed : List Cell → List Change → List Cell
changed cells changes = fold changed_by cells changes

-- the cells stand in the order of their places, each place once, on shelves from 1
pub record AreCells (cells : List Cell) : Type 0 where
  pub order : InOrder cell_key cells
  pub shelves : AllByRecursion (λ cell. 0 < cell.shelf) cells

-- each place is named once, on shelves from 1
pub record AreChanges (changes : List Change) : Type 0 where
  pub distinct : Distinct change_key changes
  pub shelves : AllByRecursion (λ change. 0 < change_shelf change) changes

-- Laws of changes of cells.
use Rattle.std.proofs.Common.{◌<◌, Bool, true, false, cond, List, [], ◌∷◌}
use Rattle.std.specs.List.{filter, AllByRecursion}
use Rattle.std.specs.Str.{bytes_eq}
use Rattle.std.specs.Prelude.{not}
use Rattle.rv_base.specs.Sorted.{put_by}
use Rattle.rv_base.specs.PositionLaws.{in_order-put, in_order-without, all-put}
use Rattle.rv_keeper.specs.declared.cell.Cell.{Cell}
use Rattle.rv_keeper.specs.declared.change.Change.{Change}
use Rattle.rv_keeper.specs.declared.change.Change.TheVariants.{Put, Remove}
use Rattle.rv_keeper.specs.Cells.{AreCells, cell_key, change_shelf, changed_by}

-- what holds of each item holds of each that passes a test
all-filter : {X : Type 0} (P : X → Type 0) (p : X → Bool) (xs : List X) → AllByRecursion P xs → AllByRecursion P (filter p xs)
all-filter P p [] all = tt
all-filter P p (x ∷ xs) all = elim (p x) as (λ b. AllByRecursion P (cond b (x ∷ filter p xs) (filter p xs))) [ true ↦ (all.0, all-filter P p xs all.1) | false ↦ all-filter P p xs all.1 ]

-- what a change leaves of cells are cells
pub are_cells_put : (cells : List Cell) (cell : Cell) → AreCells cells → 0 < cell.shelf → AreCells (put_by cell_key cell cells)
are_cells_put cells cell h low = record {
  order = in_order-put cell_key cell cells h.order;
  shelves = all-put cell_key (λ c. 0 < c.shelf) cell cells low h.shelves;
}

pub are_cells_changed : (cells : List Cell) (change : Change) → AreCells cells → 0 < change_shelf change → AreCells (changed_by cells change)
are_cells_changed cells (Put cell) h low = are_cells_put cells cell h low
are_cells_changed cells (Remove shelf key) h low = record {
  order = in_order-without cell_key (shelf ∷ key) cells h.order;
  shelves = all-filter (λ c. 0 < c.shelf) (λ c. not (bytes_eq (shelf ∷ key) (cell_key c))) cells h.shelves;
}

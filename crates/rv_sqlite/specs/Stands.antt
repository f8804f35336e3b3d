-- What the rows of the table stand for.
use Rattle.std.specs.Prelude.{◌≡◌, ◌⊎◌, ℕ, ℤ, pos, true, List, [], ◌∷◌}
use Rattle.sqlite_value.specs.declared.value.Value.TheVariants.{Int, Blob}
use Rattle.sqlite_value.specs.Order.{Row}
use Rattle.sqlite_rules.specs.Lists.{Has}
use Rattle.sqlite.specs.Effect.{Database, IsDatabase}
use Rattle.rv_base.specs.Sorted.{InOrder}
use Rattle.rv_keeper.specs.declared.cell.Cell.{Cell}
use Rattle.rv_keeper.specs.Cells.{cell_key}
use Rattle.rv_sqlite.specs.Table.{IsCellAt, is_unused}

-- the row of a cell, with the number of the row before its columns
abbrev pub cell_row : ℤ → Cell → Row
cell_row number cell = Int number ∷ Int (pos cell.shelf) ∷ Blob cell.key ∷ Blob cell.body ∷ []

-- a row for each cell, that of the generation among them, and no other; each place once, and each row's number once
pub record Stands (rows : List Row) (cells : List Cell) : Type 0 where
  pub order : InOrder cell_key cells
  pub read : (row : Row) → Has rows row → (number : ℤ) × (cell : Cell) × (row ≡ cell_row number cell) × Has cells cell
  pub kept : (cell : Cell) → Has cells cell → (number : ℤ) × Has rows (cell_row number cell)
  pub once : (i j : ℤ) (cell : Cell) → Has rows (cell_row i cell) → Has rows (cell_row j cell) → i ≡ j
  pub numbered : (i : ℤ) (one two : Cell) → Has rows (cell_row i one) → Has rows (cell_row i two) → one ≡ two

-- the database has the table, apart, and in it rows for just these cells; or nothing of its name, and there are none
pub record HasCells (db : Database) (cells : List Cell) : Type 0 where
  pub sound : IsDatabase db
  pub are : ((at : ℕ) × (tree : ℕ) × IsCellAt db.schema at tree × Stands (db.trees tree) cells) ⊎ ((is_unused db.schema ≡ true) × (cells ≡ []))

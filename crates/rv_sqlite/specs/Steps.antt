-- What the statements of a transaction do to the cells of the table, and what its commit leaves.
use Rattle.std.specs.Prelude.{◌≡◌, ℕ, false, List, [], Result, Ok, Err, IsTrue, OnOk, decimal}
use Rattle.sqlite_trees.specs.Tree.{Trees}
use Rattle.sqlite_trees.specs.declared.store.Store.{Ghosts}
use Rattle.sqlite_schema.specs.declared.schema.Schema.{Schema}
use Rattle.sqlite.specs.State.{State, HasCleanDisk, KeepsCommit, Shows}
use Rattle.sqlite.specs.Held.{Held, state}
use Rattle.rv_base.specs.Sorted.{put_by}
use Rattle.rv_keeper.specs.declared.cell.Cell.{Cell}
use Rattle.rv_keeper.specs.declared.change.Change.{Change}
use Rattle.rv_keeper.specs.Cells.{cell_key, changed}
use Rattle.rv_sqlite.specs.Table.{Stays}
use Rattle.rv_sqlite.specs.Stands.{HasCells}

-- a cell of this shelf, this key and this body
abbrev pub cell_of : ℕ → List ℕ → List ℕ → Cell
cell_of shelf key body = record { shelf = shelf; key = key; body = body }

-- the cell of the generation
abbrev pub generation_cell : ℕ → Cell
generation_cell generation = cell_of 0 [] (decimal generation)

-- all cells after changes at this generation, that of the generation among them
abbrev pub all_next : ℕ → List Change → List Cell → List Cell
all_next generation changes cells = put_by cell_key (generation_cell generation) (changed cells changes)

-- a transaction is under way, and the connection is open
pub record IsUnderWay (s : State) : Type 0 where
  pub inside : IsTrue s.in_transaction
  pub is_open : IsTrue s.is_open

-- the connection is open, and in no transaction
pub record IsReady (s : State) : Type 0 where
  pub is_open : IsTrue s.is_open
  pub autocommit : s.in_transaction ≡ false

-- The transaction goes on, and nothing was committed. A known schema stays known and has the table besides at most, and the database
-- has what the function makes of the cells that it had.
pub record Steps (old new : State) (f : List Cell → List Cell) : Type 0 where
  pub was : IsUnderWay old
  pub is : IsUnderWay new
  pub committed : new.committed ≡ old.committed
  pub stays : Stays old.now.schema new.now.schema
  pub leads : (cells : List Cell) → HasCells old.now cells → HasCells new.now (f cells)

-- what the transaction saw is committed, and the transaction is over
abbrev pub ShowsCommitted : State → State → Type 0
ShowsCommitted old new = Shows old new old.now old.now false

-- the trees have these cells, by a schema that they list
abbrev pub LeftWith : Trees → List Cell → Type 0
LeftWith trees cells = (schema : Schema) × HasCells (record { schema = schema; trees = trees }) cells

-- the trees have the cells that a write makes, where what was committed before had cells; the connection was open, and in no transaction
pub record WritesCells (old : State) (generation : ℕ) (changes : List Change) (trees : Trees) : Type 0 where
  pub was : IsReady old
  pub writes : (cells : List Cell) → HasCells old.committed cells → LeftWith trees (all_next generation changes cells)

-- the write was made: the connection is open, and has what was to be written
pub record IsWritten (old new : State) (generation : ℕ) (changes : List Change) : Type 0 where
  pub was : IsReady old
  pub is : IsReady new
  pub stays : Stays old.committed.schema new.committed.schema
  pub writes : (cells : List Cell) → HasCells old.committed cells → HasCells new.committed (all_next generation changes cells)

-- what comes of a write, by its answer: it was made, or nothing was committed
abbrev pub Comes : {E : Type 0} → State → State → ℕ → List Change → Result (Unit {0}) E → Type 0
Comes old new generation changes (Ok done) = IsWritten old new generation changes
Comes old new generation changes (Err e) = KeepsCommit old new

-- where the connection is open, what it sees is committed
abbrev pub IsSettledWhereOpen : State → Type 0
IsSettledWhereOpen s = IsTrue s.is_open → s.now ≡ s.committed

-- where the disk gave back what was written, nothing was committed
abbrev pub KeepsWhereClean : {S : Type 0} → Ghosts S → Held S → Held S → Type 0
KeepsWhereClean g old new = HasCleanDisk (state g new) → KeepsCommit (state g old) (state g new)

-- where the disk gave back what was written, a statement that was run leads so from cells to cells
abbrev pub StepsWhereClean : {S E : Type 0} → Ghosts S → Held S → Held S → Result (Unit {0}) E → (List Cell → List Cell) → Type 0
StepsWhereClean g old new result f = HasCleanDisk (state g new) → OnOk result (Steps (state g old) (state g new) f)

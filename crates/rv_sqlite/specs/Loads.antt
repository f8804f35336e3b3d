-- What a load finds in the table, in the words of the crate `sqlite`: true where the disk gave back what was written.
use Rattle.std.specs.Prelude.{◌≡◌, ◌⊎◌, ℕ, List, [], ◌∷◌, None, codes}
use Rattle.sqlite_value.specs.Order.{Row}
use Rattle.sqlite_trees.specs.declared.store.Store.{Ghosts}
use Rattle.sqlite_schema.specs.Names.{table_named}
use Rattle.sqlite.specs.State.{State, Shown}
use Rattle.sqlite.specs.Held.{Held, state}
use Rattle.rv_keeper.specs.declared.cell.Cell.{Cell}
use Rattle.rv_keeper.specs.declared.loaded.Loaded.{Loaded}
use Rattle.rv_keeper.specs.Keeping.{holding}
use Rattle.rv_sqlite.specs.declared.row_read.RowRead.{RowRead}
use Rattle.rv_sqlite.specs.declared.row_read.RowRead.TheVariants as row_read
use Rattle.rv_sqlite.specs.Rows.{Shows}

-- the statement that makes the table, where there is none
abbrev pub make_text : List ℕ
make_text = codes "CREATE TABLE IF NOT EXISTS cell (shelf INTEGER NOT NULL, k BLOB NOT NULL, body BLOB NOT NULL, PRIMARY KEY (shelf, k)) STRICT"

-- the statement that asks for all rows, in the order of shelves and then of keys
abbrev pub all_text : List ℕ
all_text = codes "SELECT shelf, k, body FROM cell ORDER BY shelf, k"

-- each row stands for its read, in turn
abbrev pub AllShow : List Row → List RowRead → Type 0
AllShow [] [] = Unit {0}
AllShow [] (read ∷ reads) = ⊥
AllShow (row ∷ rows) [] = ⊥
AllShow (row ∷ rows) (read ∷ reads) = Shows row read × AllShow rows reads

-- the cells among reads, in turn
abbrev pub cells_among : List RowRead → List Cell
cells_among [] = []
cells_among (row_read.Cell cell ∷ reads) = cell ∷ cells_among reads
cells_among (row_read.Generation number ∷ reads) = cells_among reads

-- the generations among reads, in turn
abbrev pub generations_among : List RowRead → List ℕ
generations_among [] = []
generations_among (row_read.Cell cell ∷ reads) = generations_among reads
generations_among (row_read.Generation number ∷ reads) = number ∷ generations_among reads

-- the generation by those that rows tell: 0 where none does, and else the only one
abbrev pub IsOnlyGeneration : List ℕ → ℕ → Type 0
IsOnlyGeneration [] generation = generation ≡ 0
IsOnlyGeneration (number ∷ []) generation = generation ≡ number
IsOnlyGeneration (number ∷ other ∷ more) generation = ⊥

-- the rows stand for these cells, in order, and for this generation, and for nothing else
pub record AreLoaded (rows : List Row) (loaded : Loaded) : Type 0 where
  pub reads : List RowRead
  pub shown : AllShow rows reads
  pub cells : loaded.cells ≡ cells_among reads
  pub generation : IsOnlyGeneration (generations_among reads) loaded.generation

-- what is loaded is the rows of the statement that asks for all, every one of them
abbrev pub ReadsTable : State → State → Loaded → Type 0
ReadsTable old new loaded = (rows : List Row) × Shown all_text [] old new rows × AreLoaded rows loaded

-- there is no table of this name, and nothing is loaded
pub record LacksTable (s : State) (loaded : Loaded) : Type 0 where
  pub none : table_named s.now.schema (codes "cell") ≡ None
  pub nothing : loaded ≡ holding [] 0

-- what is loaded is what the table has, or nothing where there is none
abbrev pub LoadsTable : {S : Type 0} → Ghosts S → Held S → Loaded → Type 0
LoadsTable {S} g old loaded = LacksTable (state g old) loaded ⊎ ((between : Held S) × ReadsTable (state g old) (state g between) loaded)

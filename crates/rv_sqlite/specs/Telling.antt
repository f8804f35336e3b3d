-- What a database holds as a store of cells, and what a crash may leave of it.
use Rattle.std.specs.Prelude.{◌≡◌, ◌⊎◌, ◌<◌, ◌^◌, ℕ, Bool, List, ◌∷◌, Option, Some, None, Result, Ok, Err, IsTrue}
use Rattle.std.specs.List.{AllByRecursion}
use Rattle.sqlite_trees.specs.Tree.{Trees}
use Rattle.sqlite_schema.specs.declared.schema.Schema.{Schema}
use Rattle.sqlite.specs.Effect.{Database}
use Rattle.sqlite.specs.State.{State, HasCleanDisk}
use Rattle.rv_keeper.specs.declared.cell.Cell.{Cell}
use Rattle.rv_keeper.specs.declared.change.Change.{Change}
use Rattle.rv_keeper.specs.declared.loaded.Loaded.{Loaded}
use Rattle.rv_keeper.specs.Crashes.{LeavesMore}
use Rattle.rv_keeper.specs.Keeping.{committed}
use Rattle.rv_sqlite.specs.Table.{IsCellAt, IsKnown, Stays}
use Rattle.rv_sqlite.specs.Stands.{HasCells, Stands}
use Rattle.rv_sqlite.specs.Steps.{IsReady, generation_cell}

-- all cells of the table: those that are held, and that of the generation, which may be missing at 0
pub record IsAll (held : Loaded) (all : List Cell) : Type 0 where
  pub small : held.generation < 2 ^ 64
  pub shelves : AllByRecursion (λ (cell : Cell). 0 < cell.shelf) held.cells
  pub are : (all ≡ generation_cell held.generation ∷ held.cells) ⊎ ((held.generation ≡ 0) × (all ≡ held.cells))

-- the cells of the database are this
pub record StandFor (db : Database) (held : Loaded) : Type 0 where
  pub all : List Cell
  pub whole : IsAll held all
  pub has : HasCells db all

-- the last commit left this
abbrev pub Holds : State → Loaded → Type 0
Holds s held = StandFor s.committed held

-- the connection serves calls, outside a transaction, and its disk gave back what was written
pub record Tells (s : State) : Type 0 where
  pub honest : HasCleanDisk s
  pub ready : IsReady s

-- the trees hold this, by a schema that they list
abbrev pub LeftHolding : Trees → Loaded → Type 0
LeftHolding trees held = (schema : Schema) × StandFor (record { schema = schema; trees = trees }) held

-- what a crash may leave: what an outcome holds, or nothing where an outcome holds nothing
abbrev pub MayLeave : State → Option Loaded → Type 0
MayLeave s (Some held) = (trees : Trees) × s.may_leave trees × LeftHolding trees held
MayLeave s None = (trees : Trees) × s.may_leave trees × ((held : Loaded) → ¬ LeftHolding trees held)

-- the database has the table, apart, and in it a row for each cell that is held and one for the generation
pub record HasTable (db : Database) (held : Loaded) : Type 0 where
  pub at : ℕ
  pub tree : ℕ
  pub is : IsCellAt db.schema at tree
  pub rows : Stands (db.trees tree) (generation_cell held.generation ∷ held.cells)

-- The call was made, on a connection that was open and is. A known schema is what it was, or has the table besides; and what the function
-- makes of what was held is held, in a table that has a row for the generation too.
pub record CallMakes (old new : State) (f : Loaded → Loaded) : Type 0 where
  pub was : IsReady old
  pub is : IsReady new
  pub stays : Stays old.committed.schema new.committed.schema
  pub holds : (held : Loaded) → Holds old held → Holds new (f held)
  pub table : (held : Loaded) → Holds old held → HasTable new.committed (f held)

-- the trees hold what the function makes of what was held; the connection was open, and in no transaction
pub record LeavesNext (f : Loaded → Loaded) (old : State) (trees : Trees) : Type 0 where
  pub was : IsReady old
  pub holds : (held : Loaded) → Holds old held → LeftHolding trees (f held)

-- what was loaded is what was held, and by a known schema it is held now
pub record IsToldBy (old new : State) (loaded : Loaded) : Type 0 where
  pub next : CallMakes old new (λ held. held)
  pub only : (held : Loaded) → Holds old held → held ≡ loaded
  pub holds : IsKnown old.committed.schema → Holds new loaded

-- the generation is that of what was held, which is held now
pub record IsGenerationBy (old new : State) (number : ℕ) : Type 0 where
  pub next : CallMakes old new (λ held. held)
  pub only : (held : Loaded) → Holds old held → held.generation ≡ number

-- what is held after a commit, where this was held before: with the changes at `Ok`, and else as it was
abbrev pub CommitsOrNot : {E : Type 0} → ℕ → List Change → Result (Unit {0}) E → (Loaded → Type 0) → Loaded → Type 0
CommitsOrNot from changes (Ok done) Holding held = Holding (committed from changes held)
CommitsOrNot from changes (Err e) Holding held = Holding held

-- a crash leaves what it might before, or what the function makes of what was held, and then a keeper of a known schema told it
abbrev pub LeavesAs : Bool → (Loaded → Loaded) → State → State → Type 0
LeavesAs is_known f old new = LeavesMore (MayLeave old) (MayLeave new) (λ left. (IsTrue is_known × Tells old) × ((held : Loaded) → Holds old held → left ≡ Some (f held)))

-- a crash leaves nothing that it might not leave before
abbrev pub LeavesNoMore : State → State → Type 0
LeavesNoMore old new = LeavesMore (MayLeave old) (MayLeave new) (λ left. ⊥)

-- What a keeper of either kind shows.
use Rattle.std.specs.Prelude.{◌≡◌, ◌≢◌, ℕ, List, [], Option, Some, None, Result, IfOk, IsTrue, codes}
use Rattle.sqlite_trees.specs.declared.store.Store.{Ghosts}
use Rattle.sqlite.specs.State.{HasCleanDisk}
use Rattle.sqlite.specs.Held.{Held, state}
use Rattle.rv_base.specs.declared.fault.Fault.{Fault}
use Rattle.rv_base.specs.declared.outside.Failed.{Failed}
use Rattle.rv_keeper.specs.declared.loaded.Loaded.{Loaded}
use Rattle.rv_keeper.specs.Keeping.{holding}
use Rattle.rv_keeper.specs.Schedules.{IsLoad, KeeperFailsNoMore, fails_at}
use Rattle.rv_keeper.specs.declared.memory_keeper.Fails.TheVariants.{Load}
use Rattle.rv_place.specs.declared.store_keeper.StoreKeeper.{StoreKeeper}
use Rattle.rv_place.specs.declared.store_keeper.StoreKeeper.TheVariants.{Memory, Sqlite}
use Rattle.sqlite_wal.specs.Recovery.{Image}
use Rattle.rv_place.specs.Files.{FilesHold}
use Rattle.rv_sqlite.specs.Asked.{FindsGeneration}
use Rattle.rv_sqlite.specs.Loads.{LoadsTable}
use Rattle.rv_sqlite.specs.Telling.{Holds, MayLeave, Tells}

module _ {S : Type 0} {g : Ghosts S} where
  -- how often a call has failed
  abbrev pub stored_faults : StoreKeeper S g → ℕ
  stored_faults (Memory keeper) = keeper.faults
  stored_faults (Sqlite keeper) = keeper.faults

  -- one in memory tells what it holds, and one over a database where that tells
  abbrev pub StoredTells : StoreKeeper S g → Type 0
  StoredTells (Memory keeper) = Unit {0}
  StoredTells (Sqlite keeper) = IsTrue keeper.is_known × Tells (state g keeper.connection)

  -- what it holds
  abbrev pub StoredHolds : StoreKeeper S g → Loaded → Type 0
  StoredHolds (Memory keeper) held = held ≡ holding keeper.shelves keeper.generation
  StoredHolds (Sqlite keeper) held = Holds (state g keeper.connection) held

  -- of a crash one in memory says what is true, and one over a database where its disk gave back what was written
  abbrev pub StoredHonest : StoreKeeper S g → Type 0
  StoredHonest (Memory keeper) = Unit {0}
  StoredHonest (Sqlite keeper) = IsTrue keeper.is_known × HasCleanDisk (state g keeper.connection)

  -- what a crash may leave: of one in memory what it holds
  abbrev pub StoredLeaves : StoreKeeper S g → Option Loaded → Type 0
  StoredLeaves (Memory keeper) left = left ≡ Some (holding keeper.shelves keeper.generation)
  StoredLeaves (Sqlite keeper) left = MayLeave (state g keeper.connection) left

  -- no call of one in memory fails any more
  abbrev pub StoredSteady : StoreKeeper S g → Type 0
  StoredSteady (Memory keeper) = KeeperFailsNoMore keeper.loads keeper.questions keeper.commits keeper.schedule.items
  StoredSteady (Sqlite keeper) = ⊥

  -- the connection, where there is one
  abbrev pub stored_connection : StoreKeeper S g → Option (Held S)
  stored_connection (Memory keeper) = None
  stored_connection (Sqlite keeper) = Some keeper.connection

  -- The store `memory` is in memory, with no cell, at generation 0, and fails at no call; a store of any other name is in a
  -- database. No call has failed yet.
  abbrev pub IsFresh : List ℕ → StoreKeeper S g → Type 0
  IsFresh name (Memory keeper) = (name ≡ codes "memory") × (keeper.shelves ≡ []) × (keeper.generation ≡ 0) × (keeper.faults ≡ 0) × (keeper.schedule.items ≡ [])
  IsFresh name (Sqlite keeper) = (name ≢ codes "memory") × (keeper.faults ≡ 0)

-- A load by a keeper in memory fails just where its schedule says so, and answers what it held; what one over a database answers is, where
-- the disk gave back what was written, what the table has. Neither becomes the other.
abbrev pub StoredLoads : {S : Type 0} → (g : Ghosts S) → StoreKeeper S g → Result Loaded Fault → StoreKeeper S g → Type 0
StoredLoads g (Memory old) result (Memory new) = IsLoad (fails_at (Load new.loads) old.schedule.items) (holding old.shelves old.generation) result
StoredLoads g (Sqlite old) result (Sqlite new) = HasCleanDisk (state g new.connection) → IfOk result (LoadsTable g old.connection)
StoredLoads g (Memory old) result (Sqlite new) = ⊥
StoredLoads g (Sqlite old) result (Memory new) = ⊥

-- The generation that a keeper in memory answers is its own; what one over a database answers is, where the disk gave back what was written,
-- the one that the table has. Neither becomes the other.
abbrev pub StoredAsks : {S : Type 0} → (g : Ghosts S) → StoreKeeper S g → Result ℕ Failed → StoreKeeper S g → Type 0
StoredAsks g (Memory old) result (Memory new) = IfOk result (λ number. number ≡ old.generation)
StoredAsks g (Sqlite old) result (Sqlite new) = HasCleanDisk (state g new.connection) → IfOk result (FindsGeneration g old.connection)
StoredAsks g (Memory old) result (Sqlite new) = ⊥
StoredAsks g (Sqlite old) result (Memory new) = ⊥

-- The keeper that was given holds what the store's file and its log held, where it tells. The store `memory` holds nothing.
pub record IsGiven {S : Type 0} {g : Ghosts S} (image : Image) (name : List ℕ) (keeper : StoreKeeper S g) : Type 0 where
  pub fresh : IsFresh name keeper
  pub found : name ≢ codes "memory" → StoredTells keeper → (held : Loaded) → FilesHold image held → StoredHolds keeper held

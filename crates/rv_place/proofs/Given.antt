-- What a keeper shows that was given for the store of a name.
use Rattle.std.proofs.Common.{◌≡◌, ℕ, List, [], Some, Result, Ok, Err, codes, sym, subst, ◌∙◌, inl, inr}
use Rattle.std.specs.Prelude.{IfOk}
use Rattle.sqlite_wal.specs.Recovery.{Image}
use Rattle.sqlite_trees.specs.declared.store.Store.{Ghosts}
use Rattle.rv_keeper.specs.declared.loaded.Loaded.{Loaded}
use Rattle.rv_keeper.specs.Keeping.{holding}
use Rattle.rv_keeper.specs.Stores.{LeavesAsGiven, OpensWith}
use Rattle.rv_place.specs.declared.store_keeper.StoreKeeper.{StoreKeeper}
use Rattle.rv_place.specs.declared.store_keeper.StoreKeeper.TheVariants.{Memory, Sqlite}
use Rattle.rv_place.specs.Files.{FilesHold}
use Rattle.rv_place.specs.Stored.{IsFresh, IsGiven, StoredHolds, StoredLeaves, StoredTells, stored_faults}

module _ {S : Type 0} {g : Ghosts S} (image : Image) (name : List ℕ) where
  fresh_faults : (kept : StoreKeeper S g) → IsFresh name kept → stored_faults kept ≡ 0
  fresh_faults (Memory keeper) is = is.3
  fresh_faults (Sqlite keeper) is = is.1

  fresh_memory : (kept : StoreKeeper S g) → IsFresh name kept → name ≡ codes "memory" → StoredHolds kept (holding [] 0)
  fresh_memory (Memory keeper) is memory = λ t. record { cells = sym is.1 t; generation = sym is.2 t }
  fresh_memory (Sqlite keeper) is memory = absurd (is.0 memory)

  -- no call of it has failed
  given_faults : (kept : StoreKeeper S g) → IsGiven image name kept → stored_faults kept ≡ 0
  given_faults kept given = fresh_faults kept given.fresh

  -- it holds what the store is opened with
  given_holds : (kept : StoreKeeper S g) → IsGiven image name kept → StoredTells kept → OpensWith name (FilesHold image) (StoredHolds kept)
  given_holds kept given tells held (inl memory) = subst (λ (l : Loaded). StoredHolds kept l) (sym memory.1) (fresh_memory kept given.fresh memory.0)
  given_holds kept given tells held (inr other) = given.found other.0 tells held other.1

  leaves_fresh : (kept : StoreKeeper S g) → IsFresh name kept → LeavesAsGiven name (λ left. Unit {0}) (StoredLeaves kept)
  leaves_fresh (Memory keeper) is left leaves = inl (is.0, leaves ∙ (λ t. Some (record { cells = is.1 t; generation = is.2 t })))
  leaves_fresh (Sqlite keeper) is left leaves = inr (is.0, tt)

  -- a crash leaves of one in memory nothing
  given_leaves : (kept : StoreKeeper S g) → IsGiven image name kept → LeavesAsGiven name (λ left. Unit {0}) (StoredLeaves kept)
  given_leaves kept given = leaves_fresh kept given.fresh

  -- the same of an opening that may fail
  module _ {F : Type 0} where
    pub if_given_faults : (result : Result (StoreKeeper S g) F) → IfOk result (IsGiven image name) → IfOk result (λ kept. stored_faults kept ≡ 0)
    if_given_faults (Ok kept) given = given_faults kept given
    if_given_faults (Err fault) given = tt

    pub if_given_holds : (result : Result (StoreKeeper S g) F) → IfOk result (IsGiven image name) → IfOk result (λ kept. StoredTells kept → OpensWith name (FilesHold image) (StoredHolds kept))
    if_given_holds (Ok kept) given = given_holds kept given
    if_given_holds (Err fault) given = tt

    pub if_given_leaves : (result : Result (StoreKeeper S g) F) → IfOk result (IsGiven image name) → IfOk result (λ kept. LeavesAsGiven name (λ left. Unit {0}) (StoredLeaves kept))
    if_given_leaves (Ok kept) given = given_leaves kept given
    if_given_leaves (Err fault) given = tt

-- What a place in memory shows of its stores and accounts files, and that it fails no more.
use Rattle.std.specs.Prelude.{◌≡◌, ℕ, List, Option, Some, true}
use Rattle.rv_keeper.specs.Keeping.{holding}
use Rattle.rv_keeper.specs.declared.loaded.Loaded.{Loaded}
use Rattle.rv_keeper.specs.declared.memory_keeper.MemoryKeeper.{MemoryKeeper}
use Rattle.rv_doubles.specs.declared.memory_place.MemoryPlace.{MemoryPlace}
use Rattle.rv_doubles.specs.MemoryStores.{PlaceFailsNoMore, StoreHolds, StoreIsOut, bytes_of, found_store, has_store}
use Rattle.rv_keeper.specs.Schedules.{KeeperFailsNoMore}

-- the store of this name holds this
abbrev pub place_holds : MemoryPlace → List ℕ → Loaded → Type 0
place_holds place name held = StoreHolds place.stores.items name held

-- a crash leaves of the store of this name what it has
abbrev pub place_leaves : MemoryPlace → List ℕ → Option Loaded → Type 0
place_leaves place name left = let store = found_store name place.stores.items in left ≡ Some (holding store.shelves store.generation)

-- the keeper of the store of this name is out
abbrev pub place_out : MemoryPlace → List ℕ → Type 0
place_out place name = StoreIsOut place.stores.items name

-- the store of this name is there
abbrev pub place_has : MemoryPlace → List ℕ → Type 0
place_has place name = has_store place.stores.items name ≡ true

-- the accounts file of this name has these bytes
abbrev pub place_file : MemoryPlace → List ℕ → List ℕ → Type 0
place_file place name file = bytes_of name place.files.items ≡ Some file

-- no opening to come fails, and no call of a keeper that is to be given
abbrev pub IsSteadyPlace : MemoryPlace → Type 0
IsSteadyPlace place = PlaceFailsNoMore place.calls place.failing.items place.schedules.items

-- no call of the keeper fails any more
abbrev pub IsSteadyKeeper : MemoryKeeper → Type 0
IsSteadyKeeper keeper = KeeperFailsNoMore keeper.loads keeper.questions keeper.commits keeper.schedule.items

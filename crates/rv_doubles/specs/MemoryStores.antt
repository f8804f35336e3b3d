-- The stores and the accounts files of a place in memory, by their names.
use Rattle.std.specs.Prelude.{◌≡◌, ℕ, ◌<◌, ◌||◌, Bool, false, true, List, [], ◌∷◌, length, slice_index_or, slice_set, codes, is_some, unwrap_or, if◌then◌else◌}
use Rattle.std.specs.declared.option.Option.{Option}
use Rattle.std.specs.List.{AllByRecursion}
use Rattle.std.specs.Option.{option_map}
use Rattle.std.specs.Str.{bytes_eq}
use Rattle.rv_doubles.specs.declared.accounts_file.AccountsFile.{AccountsFile}
use Rattle.rv_keeper.specs.declared.cell.Cell.{Cell}
use Rattle.rv_keeper.specs.declared.memory_keeper.Fails.{Fails}
use Rattle.rv_keeper.specs.declared.loaded.Loaded.{Loaded}
use Rattle.rv_doubles.specs.declared.store.Store.{Store}
use Rattle.rv_keeper.specs.Keeping.{holding}
use Rattle.rv_keeper.specs.Schedules.{KeeperFailsNoMore}
use Rattle.rv_doubles.specs.InMemory as opening
use Rattle.rv_keeper.specs.Named.{first_named, with_named}

-- the first store of this name
abbrev pub store_of : List ℕ → List Store → Option Store
store_of name stores = first_named (λ store. store.name) name stores

-- the store of this name is there; the store `memory` always is
abbrev pub has_store : List Store → List ℕ → Bool
has_store stores name = is_some (store_of name stores) || bytes_eq name (codes "memory")

-- the stores with this one in place of the first of its name, or at the end
abbrev pub with_store : Store → List Store → List Store
with_store new stores = with_named (λ store. store.name) new stores

-- a store that holds these cells at this generation, and whose keeper is not out
abbrev pub kept_store : List ℕ → List Cell → ℕ → Store
kept_store name cells generation = record { name = name; shelves = cells; generation = generation; is_out = false }

-- a store that holds no cell, at generation 0
abbrev pub empty_store : List ℕ → Store
empty_store name = kept_store name [] 0

-- a store as it is while its keeper is out
abbrev pub out_store : List ℕ → Store
out_store name = record (empty_store name) { is_out = true }

-- the store of this name, or an empty one where there is none
abbrev pub found_store : List ℕ → List Store → Store
found_store name stores = unwrap_or (store_of name stores) (empty_store name)

-- the store of this name is not out, and holds this
abbrev pub StoreHolds : List Store → List ℕ → Loaded → Type 0
StoreHolds stores name held = let store = found_store name stores in (store.is_out ≡ false) × (held ≡ holding store.shelves store.generation)

-- the keeper of the store of this name is out
abbrev pub StoreIsOut : List Store → List ℕ → Type 0
StoreIsOut stores name = (found_store name stores).is_out ≡ true

-- what the keeper of a store of this name holds as it is given: the store `memory` begins empty
abbrev pub given : List ℕ → Store → Loaded
given name store = if bytes_eq name (codes "memory") then holding [] 0 else holding store.shelves store.generation

-- the first schedule, which names no call where none is left
abbrev pub first_schedule : List (List Fails) → List Fails
first_schedule [] = []
first_schedule (schedule ∷ schedules) = schedule

-- no opening to come fails, and no call of a keeper that is to be given
abbrev pub PlaceFailsNoMore : ℕ → List ℕ → List (List Fails) → Type 0
PlaceFailsNoMore calls failing schedules = opening.FailsNoMore calls failing × AllByRecursion (KeeperFailsNoMore 0 0 0) schedules

-- Where the store of this name stands: what is there, and what a write there leaves of the stores as they were before the
-- store was found or added.
pub record StandsAt (name : List ℕ) (old stores : List Store) (at : ℕ) : Type 0 where
  pub in_range : at < length stores
  pub found : (d : Store) → slice_index_or stores at d ≡ found_store name old
  pub written : (new : Store) → new.name ≡ name → slice_set stores at new ≡ with_store new old

-- an accounts file of this name with these bytes
abbrev pub accounts_file : List ℕ → List ℕ → AccountsFile
accounts_file name bytes = record { name = name; bytes = bytes }

-- the first accounts file of this name
abbrev pub file_of : List ℕ → List AccountsFile → Option AccountsFile
file_of name files = first_named (λ file. file.name) name files

-- the bytes of the accounts file of this name, where there is one
abbrev pub bytes_of : List ℕ → List AccountsFile → Option (List ℕ)
bytes_of name files = option_map (λ file. file.bytes) (file_of name files)

-- the files with this one in place of the first of its name, or at the end
abbrev pub with_file : AccountsFile → List AccountsFile → List AccountsFile
with_file new files = with_named (λ file. file.name) new files

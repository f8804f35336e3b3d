-- Stores of a place in memory that are not there.
use Rattle.std.proofs.Common.{◌≡◌, ◌||◌, true, false, ℕ, List, [], codes, Option, Some, None, unwrap_or, refl}
use Rattle.std.specs.Option.{is_some}
use Rattle.std.specs.Str.{bytes_eq}
use Rattle.rv_doubles.specs.declared.store.Store.{Store}
use Rattle.rv_keeper.specs.Keeping.{holding}
use Rattle.rv_doubles.specs.MemoryStores.{StoreHolds, empty_store, has_store, store_of}

-- A store that is not there holds no cell, at generation 0.
pub absent_holds : (name : List ℕ) (stores : List Store) → ¬ (has_store stores name ≡ true) → StoreHolds stores name (holding [] 0)
absent_holds name stores absent =
    elim (store_of name stores) as (λ (found : Option Store). ¬ ((is_some found || bytes_eq name (codes "memory")) ≡ true)
    → (let store = unwrap_or found (empty_store name) in (store.is_out ≡ false) × (holding [] 0 ≡ holding store.shelves store.generation))) [
      | None ↦ λ h. (refl, refl)
      | Some store ↦ λ h. absurd (h refl)
    ] absent

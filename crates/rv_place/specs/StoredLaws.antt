-- Laws of a keeper of either kind.
use Rattle.std.proofs.Common.{◌≡◌, refl, sym, ◌∙◌}
use Rattle.sqlite_trees.specs.declared.store.Store.{Ghosts}
use Rattle.rv_keeper.specs.declared.loaded.Loaded.{Loaded}
use Rattle.rv_sqlite.specs.HeldLaws.{stand_same}
use Rattle.rv_place.specs.declared.store_keeper.StoreKeeper.{StoreKeeper}
use Rattle.rv_place.specs.declared.store_keeper.StoreKeeper.TheVariants.{Memory, Sqlite}
use Rattle.rv_place.specs.Stored.{StoredHolds, StoredHonest, StoredSteady, StoredTells}

module _ {S : Type 0} {g : Ghosts S} where
  -- what fails no more tells
  pub stored_tells : (keeper : StoreKeeper S g) → StoredSteady keeper → StoredTells keeper
  stored_tells (Memory keeper) steady = tt
  stored_tells (Sqlite keeper) steady = absurd steady

  -- what tells is honest
  pub stored_honestly : (keeper : StoreKeeper S g) → StoredTells keeper → StoredHonest keeper
  stored_honestly (Memory keeper) tells = tt
  stored_honestly (Sqlite keeper) tells = (tells.0, tells.1.honest)

  -- it holds one thing
  pub stored_one : (keeper : StoreKeeper S g) (one two : Loaded) → StoredHolds keeper one → StoredHolds keeper two → one ≡ two
  stored_one (Memory keeper) one two is also = is ∙ sym also
  stored_one (Sqlite keeper) one two is also = stand_same _ _ one two refl is also

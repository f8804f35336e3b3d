-- A store before a run of the program and after it.
use Rattle.std.specs.Prelude.{ℕ, List, Option}
use Rattle.rv_keeper.specs.declared.keeper.Keeper.{Ghosts}
use Rattle.rv_keeper.specs.declared.loaded.Loaded.{Loaded}
use Rattle.rv_keeper.specs.declared.place.Place.{Ghosts as PlaceGhosts}
use Rattle.rv_keeper.specs.Stores.{OpensAs}

-- Whether the place tells, and is honest; what the store held before, what it is opened with, what it holds afterwards; what a crash might
-- leave of it before, and may afterwards; and the place's counts of faults before and after.
pub record StoreChange : Type 1 where
  pub told : Type 0
  pub honest : Type 0
  pub held : Loaded → Type 0
  pub opens : Loaded → Type 0
  pub holds : Loaded → Type 0
  pub might_leave : Option Loaded → Type 0
  pub may_leave : Option Loaded → Type 0
  pub before : ℕ
  pub after : ℕ

module _ {P K : Type 0} (place : PlaceGhosts P K) where
  -- a store of a place, which was this before and is this afterwards
  abbrev pub change : List ℕ → P → P → StoreChange
  change store old new = record {
    told = place.tells new;
    honest = place.honest new;
    held = place.holds old store;
    opens = OpensAs store (place.holds old store);
    holds = place.holds new store;
    might_leave = place.may_leave old store;
    may_leave = place.may_leave new store;
    before = place.faults old;
    after = place.faults new;
  }

  -- the same of a store whose keeper is out
  abbrev pub kept_change : Ghosts K → List ℕ → K → P → P → StoreChange
  kept_change G store kept old new = record {
    told = place.tells new;
    honest = place.honest new;
    held = G.holds kept;
    opens = G.holds kept;
    holds = place.holds new store;
    might_leave = G.may_leave kept;
    may_leave = place.may_leave new store;
    before = place.faults old;
    after = place.faults new;
  }

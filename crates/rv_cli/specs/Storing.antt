-- What opening the desk of a store leaves of the place.
use Rattle.std.specs.Prelude.{◌≡◌, ◌-◌, ◌^◌, ℕ, List, Some, None, Result, Ok, Err}
use Rattle.rv_keeper.specs.declared.keeper.Keeper.{Ghosts}
use Rattle.rv_keeper.specs.declared.loaded.Loaded.{Loaded}
use Rattle.rv_keeper.specs.declared.place.Place.{Ghosts as PlaceGhosts}
use Rattle.rv_keeper.specs.Crashes.{LeavesMore}
use Rattle.rv_keeper.specs.Stores.{OpensAs}
use Rattle.rv_store.specs.Opening.{MayOpen}
use Rattle.rv_desk.specs.DeskStates.{DeskState}
use Rattle.rv_cli.specs.declared.ending.Ending.{Ending}
use Rattle.rv_cli.specs.Change.{change, kept_change}
use Rattle.rv_cli.specs.Headline.{IsLeftAs, IsNotOpened}

module _ {P K : Type 0} (place : PlaceGhosts P K) (G : Ghosts K) where
  -- The desk is that of the book as which the store was kept; nothing is in doubt. Its keeper is out.
  pub record HasOpened (store : List ℕ) (old : P) (desk : DeskState K) (new : P) : Type 0 where
    pub loaded : Loaded
    pub stored : place.tells new → G.tells desk.keeper → (held : Loaded) → OpensAs store (place.holds old store) held → held ≡ loaded
    pub opens : MayOpen (2 ^ 32 - 1) desk.book loaded
    pub limit : desk.limit ≡ 2 ^ 32 - 1
    pub doubt : desk.doubt ≡ None
    pub none : G.faults desk.keeper ≡ 0
    pub out : place.tells new → place.is_out new store
    pub same : place.faults new ≡ place.faults old

  -- what tells after an opening told before: the place, where the keeper of a desk that was opened tells
  abbrev pub ToldBefore : P → Result (DeskState K) Ending → P → Type 0
  ToldBefore old (Ok desk) new = place.tells new → G.tells desk.keeper → place.tells old
  ToldBefore old (Err ending) new = place.tells new → place.tells old

  abbrev pub OpensStore : List ℕ → P → Result (DeskState K) Ending → P → Type 0
  OpensStore store old (Ok desk) new = HasOpened store old desk new
  OpensStore store old (Err ending) new =
      IsNotOpened (change place store old new) ending × IsLeftAs (change place store old new)

  -- the same of a keeper that is out, which holds this
  pub record KeptOpened (kept : K) (old : P) (desk : DeskState K) (new : P) : Type 0 where
    pub loaded : Loaded
    pub told : G.tells desk.keeper → G.tells kept
    pub stored : G.tells desk.keeper → (held : Loaded) → G.holds kept held → held ≡ loaded
    pub opens : MayOpen (2 ^ 32 - 1) desk.book loaded
    pub limit : desk.limit ≡ 2 ^ 32 - 1
    pub doubt : desk.doubt ≡ None
    pub still : G.faults desk.keeper ≡ G.faults kept
    pub same : new ≡ old

  abbrev pub OpensKept : List ℕ → K → P → Result (DeskState K) Ending → P → Type 0
  OpensKept store kept old (Ok desk) new = KeptOpened kept old desk new
  OpensKept store kept old (Err ending) new = G.faults kept ≡ 0 → (place.tells new → place.tells old × G.tells kept)
      × IsNotOpened (kept_change place G store kept old new) ending × (place.tells new → (held : Loaded) → G.holds kept held → place.holds new store held)
      × (place.tells new → G.honest kept × LeavesMore (G.may_leave kept) (place.may_leave new store) (λ left. (held : Loaded) → G.holds kept held → left ≡ Some held))

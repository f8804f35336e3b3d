-- What each command over a store promises of it, whichever command it is.
use Rattle.std.specs.Prelude.{◌≡◌, ◌≢◌, ℕ, List, Contains, codes}
use Rattle.rv_keeper.specs.declared.place.Place.{Ghosts as PlaceGhosts}
use Rattle.rv_keeper.specs.Stores.{OpensAs, OthersStay}
use Rattle.rv_cli.specs.Headline.{KeptSound}
use Rattle.rv_cli.specs.Steadiness.{PlaceIsSteady}

module _ {P K : Type 0} (place : PlaceGhosts P K) where
  -- The status is one of the command's own. Where the place tells, it is no damage if the store kept a lawful book within the limit, as
  -- the store in memory does; and stores and files of other names are as they were. Over a place that fails no more the status is no
  -- fault of it, if what the command asks for is there.
  pub record KeepsStore (store statuses : List ℕ) (There : Type 0) (old new : P) (status : ℕ) : Type 0 where
    pub complete : Contains statuses status
    pub sound : place.tells new → KeptSound (OpensAs store (place.holds old store)) → status ≢ 5
    pub in_memory : place.tells new → store ≡ codes "memory" → status ≢ 5
    pub others : place.tells new → OthersStay place.holds place.may_leave place.is_out place.has place.accounts store old new
    pub steady : place.fails_no_more old → There → PlaceIsSteady place.fails_no_more new status

  -- Over a place that fails no more its count of faults stays, if what is asked for is there. Of `serve` this is not said.
  abbrev pub CountStays : Type 0 → P → P → Type 0
  CountStays There old new = place.fails_no_more old → There → place.faults new ≡ place.faults old

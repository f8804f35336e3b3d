-- What follows of runs over one store, one after the other, whatever each of them does.
use Rattle.std.specs.Prelude.{◌≢◌, ℕ, List, codes}
use Rattle.rv_keeper.specs.declared.place.Place.{Ghosts as PlaceGhosts}
use Rattle.rv_history.specs.Served.{Served, Settles}
use Rattle.rv_cli.specs.Change.{change}
use Rattle.rv_cli.specs.Headline.{Begins, Leaves}

-- A run left a store of a place so, and the next run over it began so, and the place told after each of them. Then the next run began
-- with the settled book of the one before it; but for the store `memory`, which begins with no entry each time.
abbrev pub RunsGoOn : {P K : Type 0} → PlaceGhosts P K → Type 0
RunsGoOn {P} place = (old mid new : P) (store : List ℕ) (now first : Served) → store ≢ codes "memory" → place.tells mid → place.tells new
    → Leaves (change place store old mid) now → Begins (change place store mid new) first → Settles now.book now.doubt first.book

-- What the reports promise: `lists STORE`, `activity STORE`, `check STORE`, `export STORE USER` and `ship STORE`.
use Rattle.std.specs.Prelude.{◌≡◌, ℕ, List, [], ◌∷◌}
use Rattle.rv_base.specs.Outside.{OutputState}
use Rattle.rv_base.specs.declared.outside.Sink.{Ghosts as SinkGhosts}
use Rattle.rv_keeper.specs.declared.place.Place.{Ghosts as PlaceGhosts}
use Rattle.rv_book.specs.Book.{Book}
use Rattle.rv_cli.specs.declared.ending.Ending.{Ending}
use Rattle.rv_cli.specs.Change.{change}
use Rattle.rv_cli.specs.Headline.{RunsReport}
use Rattle.rv_cli.specs.Running.{Outside, Run}
use Rattle.rv_cli.specs.StorePromise.{CountStays, KeepsStore}

abbrev pub report_statuses : List ℕ
report_statuses = 0 ∷ 4 ∷ 5 ∷ 7 ∷ 8 ∷ []

-- What is written is so of the book that the store kept, which it still keeps.
abbrev pub WasReported : {P K O : Type 0} → PlaceGhosts P K → SinkGhosts O → List ℕ → (Book → OutputState → OutputState → Ending → Type 0) → P → P → O → O → ℕ → Type 0
WasReported place output store Writes old new out out' = RunsReport (change place store old new) Writes (output.state out) (output.state out')

-- Where the place tells, status 0 comes only of a store that is there, and one that isn't there is not made.
pub record MakesNone {P K : Type 0} (place : PlaceGhosts P K) (store : List ℕ) (old new : P) (status : ℕ) : Type 0 where
  pub there : place.tells new → status ≡ 0 → place.has old store
  pub none_made : place.tells new → place.has new store → place.has old store

module _ (o : Outside) where
  -- of a report that is written so of the book
  pub record KeepsReport (store : List ℕ) (Writes : Book → OutputState → OutputState → Ending → Type 0) (r : Run o) : Type 0 where
    -- the run was so
    pub reported : WasReported o.place o.output store Writes r.old.place r.new.place r.old.output r.new.output r.status
    -- what each command over a store promises, of one that is there
    pub keeps : KeepsStore o.place store report_statuses (o.place.has r.old.place store) r.old.place r.new.place r.status
    pub still : CountStays o.place (o.place.has r.old.place store) r.old.place r.new.place
    pub none : MakesNone o.place store r.old.place r.new.place r.status
    -- the input and the net are let alone
    pub input : r.new.input ≡ r.old.input
    pub net : r.new.net ≡ r.old.net

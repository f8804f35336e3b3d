-- What `feed STORE` promises.
use Rattle.std.specs.Prelude.{◌≡◌, ◌≢◌, ℕ, List, [], ◌∷◌}
use Rattle.rv_base.specs.declared.outside.Source.{Ghosts as SourceGhosts}
use Rattle.rv_base.specs.declared.outside.Sink.{Ghosts as SinkGhosts}
use Rattle.rv_keeper.specs.declared.place.Place.{Ghosts as PlaceGhosts}
use Rattle.rv_cli.specs.Change.{change}
use Rattle.rv_cli.specs.Headline.{AllAsk, RunsFeed}
use Rattle.rv_cli.specs.Running.{Outside, Run}
use Rattle.rv_cli.specs.StorePromise.{CountStays, KeepsStore}

abbrev pub feed_statuses : List ℕ
feed_statuses = 0 ∷ 4 ∷ 5 ∷ 6 ∷ 7 ∷ 8 ∷ 10 ∷ []

-- What is written are the answers of a run from the book that the store kept over the lines that were read, and the store keeps the book
-- that the run leaves.
abbrev pub WasFed : {P K S O : Type 0} → PlaceGhosts P K → SourceGhosts S → SinkGhosts O → List ℕ → P → P → S → S → O → O → ℕ → Type 0
WasFed place input output store old new read read' out out' = RunsFeed (change place store old new) (input.state read) (input.state read') (output.state out) (output.state out')

module _ (o : Outside) where
  pub record KeepsFeed (store : List ℕ) (r : Run o) : Type 0 where
    -- the run was so
    pub fed : WasFed o.place o.input o.output store r.old.place r.new.place r.old.input r.new.input r.old.output r.new.output r.status
    -- what each command over a store promises
    pub keeps : KeepsStore o.place store feed_statuses (Unit {0}) r.old.place r.new.place r.status
    -- where all lines are of the form, the status is none of a line that isn't
    pub complete : AllAsk (o.input.state r.old.input).left (r.status ≢ 10)
    pub still : CountStays o.place (Unit {0}) r.old.place r.new.place
    -- the net is let alone
    pub net : r.new.net ≡ r.old.net

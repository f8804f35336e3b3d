-- What `retire STORE GROUP` and `close-book STORE` promise, which answer one line.
use Rattle.std.specs.Prelude.{◌≡◌, ℕ, List, [], ◌∷◌, Ok}
use Rattle.rv_base.specs.declared.outside.Sink.{Ghosts as SinkGhosts}
use Rattle.rv_keeper.specs.declared.place.Place.{Ghosts as PlaceGhosts}
use Rattle.rv_answering.specs.declared.line.Line.{Line}
use Rattle.rv_answering.specs.declared.line.Line.TheVariants.{Asks}
use Rattle.rv_answering.specs.declared.request.Request.TheVariants.{Close, Retire}
use Rattle.rv_cli.specs.Change.{change}
use Rattle.rv_cli.specs.Headline.{RunsOne}
use Rattle.rv_cli.specs.Running.{Outside, Run}
use Rattle.rv_cli.specs.StorePromise.{CountStays, KeepsStore}

abbrev pub reply_statuses : List ℕ
reply_statuses = 0 ∷ 4 ∷ 5 ∷ 7 ∷ 8 ∷ []

-- What is written is the answer to the line at the book that the store kept, and the store keeps the book that it leaves.
abbrev pub WasAnswered : {P K O : Type 0} → PlaceGhosts P K → SinkGhosts O → List ℕ → Line → P → P → O → O → ℕ → Type 0
WasAnswered place output store line old new out out' = RunsOne (change place store old new) line (output.state out) (output.state out')

module _ (o : Outside) where
  -- of one line
  pub record KeepsAnswer (store : List ℕ) (line : Line) (r : Run o) : Type 0 where
    -- the run was so
    pub answered : WasAnswered o.place o.output store line r.old.place r.new.place r.old.output r.new.output r.status
    -- what each command over a store promises
    pub keeps : KeepsStore o.place store reply_statuses (Unit {0}) r.old.place r.new.place r.status
    pub still : CountStays o.place (Unit {0}) r.old.place r.new.place
    -- the input and the net are let alone
    pub input : r.new.input ≡ r.old.input
    pub net : r.new.net ≡ r.old.net

  -- `retire`: the line that retires the group
  abbrev pub KeepsRetire : List ℕ → List ℕ → Run o → Type 0
  KeepsRetire store group = KeepsAnswer store (Asks (Ok (Retire group)))

  -- `close-book`: the line that closes the book
  abbrev pub KeepsClosing : List ℕ → Run o → Type 0
  KeepsClosing store = KeepsAnswer store (Asks (Ok Close))

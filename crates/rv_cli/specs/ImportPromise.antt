-- What `import STORE USER NAME` promises.
use Rattle.std.specs.Prelude.{◌≡◌, ℕ, List, [], ◌∷◌}
use Rattle.rv_base.specs.declared.outside.Source.{Ghosts as SourceGhosts}
use Rattle.rv_base.specs.declared.outside.Sink.{Ghosts as SinkGhosts}
use Rattle.rv_keeper.specs.declared.place.Place.{Ghosts as PlaceGhosts}
use Rattle.rv_cli.specs.Change.{change}
use Rattle.rv_cli.specs.Importing.{RunsImport}
use Rattle.rv_cli.specs.Running.{Outside, Run}
use Rattle.rv_cli.specs.StorePromise.{CountStays, KeepsStore}

abbrev pub import_statuses : List ℕ
import_statuses = 0 ∷ 4 ∷ 5 ∷ 6 ∷ 7 ∷ 8 ∷ 11 ∷ 12 ∷ []

-- What was entered are the turns of the records that were read, from the book that the store kept, and the store keeps the book that they
-- leave.
abbrev pub WasImported : {P K S O : Type 0} → PlaceGhosts P K → SourceGhosts S → SinkGhosts O → List ℕ → List ℕ → List ℕ → P → P → S → S → O → O → ℕ → Type 0
WasImported place input output store user name old new read read' out out' = RunsImport (change place store old new) user name (input.state read) (input.state read') (output.state out) (output.state out')

module _ (o : Outside) where
  pub record KeepsImport (store user name : List ℕ) (r : Run o) : Type 0 where
    -- the run was so
    pub imported : WasImported o.place o.input o.output store user name r.old.place r.new.place r.old.input r.new.input r.old.output r.new.output r.status
    -- what each command over a store promises
    pub keeps : KeepsStore o.place store import_statuses (Unit {0}) r.old.place r.new.place r.status
    pub still : CountStays o.place (Unit {0}) r.old.place r.new.place
    -- the net is let alone
    pub net : r.new.net ≡ r.old.net

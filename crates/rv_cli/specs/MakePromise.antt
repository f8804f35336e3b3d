-- What `make SEED N` promises.
use Rattle.std.specs.Prelude.{◌≡◌, ℕ, List, [], ◌∷◌, Contains}
use Rattle.rv_cli.specs.Headline.{RunsMake}
use Rattle.rv_cli.specs.Running.{Outside, Run}

abbrev pub make_statuses : List ℕ
make_statuses = 0 ∷ 7 ∷ 8 ∷ []

module _ (o : Outside) where
  -- What is written is the summary of a run of the first requests that the seed makes, over a fresh server; where memory was refused there is
  -- none.
  pub record KeepsMake (seed requests : ℕ) (r : Run o) : Type 0 where
    pub made : RunsMake seed requests (o.output.state r.old.output) (o.output.state r.new.output) r.status
    pub complete : Contains make_statuses r.status
    -- the place, the input and the net are let alone
    pub place : r.new.place ≡ r.old.place
    pub input : r.new.input ≡ r.old.input
    pub net : r.new.net ≡ r.old.net

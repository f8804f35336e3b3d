-- What is seen of a bell, and what a wait counts.
use Rattle.std.specs.Prelude.{◌≡◌, ℕ, zero, suc}
use Rattle.rv_base.specs.Outside.{counted}
use Rattle.rv_poke.specs.declared.waited.Waited.{Waited}
use Rattle.rv_poke.specs.declared.waited.Waited.TheVariants.{Rung, Quiet, Over}

-- How often a wait ended as the bell was rung, how often as it was silent, and how often as all was over.
pub record BellState : Type 0 where
  pub rungs : ℕ
  pub quiets : ℕ
  pub overs : ℕ

-- no wait has ended yet
abbrev pub unasked : BellState
unasked = record { rungs = 0; quiets = 0; overs = 0 }

-- a count of so many more, which stands still at its type's end
abbrev pub counted_by : ℕ → ℕ → ℕ
counted_by zero n = n
counted_by (suc more) n = counted (counted_by more n)

-- The end of the wait is counted, and nothing else.
abbrev pub HasWaited : BellState → BellState → Waited → Type 0
HasWaited old new Rung = (new.rungs ≡ counted old.rungs) × (new.quiets ≡ old.quiets) × (new.overs ≡ old.overs)
HasWaited old new Quiet = (new.rungs ≡ old.rungs) × (new.quiets ≡ counted old.quiets) × (new.overs ≡ old.overs)
HasWaited old new Over = (new.rungs ≡ old.rungs) × (new.quiets ≡ old.quiets) × (new.overs ≡ counted old.overs)

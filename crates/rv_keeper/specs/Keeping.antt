-- What a keeper answers, and what it holds afterwards.
use Rattle.std.specs.Prelude.{◌≡◌, ◌≢◌, ℕ, ◌+◌, ◌≤◌, ◌⊎◌, List, Result, Ok, Err, IsErrOf, OnOk}
use Rattle.rv_base.specs.Causes.{Rose}
use Rattle.rv_base.specs.declared.fault.Fault.{Fault}
use Rattle.rv_base.specs.declared.fault.Fault.TheVariants.{Failed, Memory}
use Rattle.rv_keeper.specs.declared.cell.Cell.{Cell}
use Rattle.rv_keeper.specs.declared.change.Change.{Change}
use Rattle.rv_keeper.specs.declared.loaded.Loaded.{Loaded}
use Rattle.rv_keeper.specs.Cells.{changed}

-- these cells and this generation
abbrev pub holding : List Cell → ℕ → Loaded
holding cells generation = record { cells = cells; generation = generation }

-- what is held after a commit that was made
abbrev pub committed : ℕ → List Change → Loaded → Loaded
committed from changes held = holding (changed held.cells changes) (from + 1)

-- What a load answers is what is held: by what it left, and as the one thing that was held before.
abbrev pub LoadsHeld : Loaded → (Loaded → Type 0) → (Loaded → Type 0) → Type 0
LoadsHeld loaded Held Holds = Holds loaded × ((held : Loaded) → Held held → held ≡ loaded)

-- What is held after a commit, by its answer, where this was held before: at `Failed` the commit may have been made.
abbrev pub Made : ℕ → List Change → Result (Unit {0}) Fault → (Loaded → Type 0) → Loaded → Type 0
Made from changes (Ok done) Holds held = Holds (committed from changes held)
Made from changes (Err Failed) Holds held = Holds held ⊎ Holds (committed from changes held)
Made from changes (Err Memory) Holds held = Holds held

-- the count has risen where the keeper failed, and else it stays
pub record HasKeepCause {T : Type 0} (before now : ℕ) (result : Result T Fault) : Type 0 where
  pub later : before ≤ now
  pub failed : IsErrOf result Failed → Rose before now
  pub still : OnOk result (now ≡ before)
  pub memory : IsErrOf result Memory → now ≡ before

-- the answer is this generation or the one after it, and the count stays; at any other it has risen
abbrev pub IsNear : {E : Type 0} → ℕ → ℕ → ℕ → Result ℕ E → Type 0
IsNear from before now (Ok generation) = (((generation ≡ from) ⊎ (generation ≡ from + 1)) × (now ≡ before)) ⊎ ((generation ≢ from) × (generation ≢ from + 1) × Rose before now)
IsNear from before now (Err e) = Rose before now

-- Of a question for the generation the count has risen at an `Err`, and at an answer that is neither of the two that may come; and else
-- it stays.
pub record HasGenerationCause {E : Type 0} (from before now : ℕ) (result : Result ℕ E) : Type 0 where
  pub later : before ≤ now
  pub near : IsNear from before now result

-- What a keeper is to what it was, whatever it was asked: it tells only if it told, it fails no more if it failed no more, and its count of
-- faults has not fallen.
module _ {K : Type 0} (faults : K → ℕ) (tells fails_no_more : K → Type 0) where
  pub record Follows (old new : K) : Type 0 where
    pub told : tells new → tells old
    pub goes_on : fails_no_more old → fails_no_more new
    pub later : faults old ≤ faults new

-- of a keeper that fails no more: it goes on so, and this call did not fail
pub record KeepsSteady {T : Type 0} (steady : Type 0) (result : Result T Fault) : Type 0 where
  pub goes_on : steady
  pub no_fault : ¬ IsErrOf result Failed

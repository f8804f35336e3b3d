-- Stores by their names, and their keepers.
use Rattle.std.specs.Prelude.{◌≡◌, ◌≢◌, ◌⊎◌, ℕ, zero, suc, List, [], codes, Option, Some, Result, IsErrOf}
use Rattle.rv_base.specs.Causes.{Rose}
use Rattle.rv_base.specs.declared.fault.Fault.{Fault}
use Rattle.rv_base.specs.declared.fault.Fault.TheVariants.{Failed}
use Rattle.rv_keeper.specs.declared.loaded.Loaded.{Loaded}
use Rattle.rv_keeper.specs.Keeping.{holding}

-- The store of this name is opened with this: the store `memory` with no cell, at generation 0, and any other with what it holds.
abbrev pub OpensAs : List ℕ → (Loaded → Type 0) → Loaded → Type 0
OpensAs name Stored held = ((name ≡ codes "memory") × (held ≡ holding [] 0)) ⊎ ((name ≢ codes "memory") × Stored held)

-- the keeper holds what the store is opened with
abbrev pub OpensWith : List ℕ → (Loaded → Type 0) → (Loaded → Type 0) → Type 0
OpensWith name Stored Holds = (held : Loaded) → OpensAs name Stored held → Holds held

-- a crash leaves of the keeper what it might leave of the store that it is given for; of the store `memory` no cell, at generation 0
abbrev pub LeavesAsGiven : List ℕ → (Option Loaded → Type 0) → (Option Loaded → Type 0) → Type 0
LeavesAsGiven name Might Leaves = (left : Option Loaded) → Leaves left → ((name ≡ codes "memory") × (left ≡ Some (holding [] 0))) ⊎ ((name ≢ codes "memory") × Might left)

-- the count of faults after a keeper that failed so often came back
abbrev pub TakesUp : ℕ → ℕ → ℕ → Type 0
TakesUp zero before now = now ≡ before
TakesUp (suc n) before now = Rose before now

-- What was held by stores, which keepers were out, which stores were there and which not, and what accounts files had, is still so; a
-- crash leaves of stores no more than before.
module _ {P : Type 0} (holds : P → List ℕ → Loaded → Type 0) (may_leave : P → List ℕ → Option Loaded → Type 0) (is_out has : P → List ℕ → Type 0) (accounts : P → List ℕ → List ℕ → Type 0) where
  pub record PlaceStays (old new : P) : Type 0 where
    pub held : (name : List ℕ) (held : Loaded) → holds old name held → holds new name held
    pub left : (name : List ℕ) (left : Option Loaded) → may_leave new name left → may_leave old name left
    pub out : (name : List ℕ) → is_out old name → is_out new name
    pub stores : (name : List ℕ) → has old name → has new name
    pub no_more : (name : List ℕ) → has new name → has old name
    pub files : (name file : List ℕ) → accounts old name file → accounts new name file

  -- The same of every store but this one, which may be made.
  pub record OthersStay (name : List ℕ) (old new : P) : Type 0 where
    pub held : (other : List ℕ) (held : Loaded) → other ≢ name → holds old other held → holds new other held
    pub left : (other : List ℕ) (left : Option Loaded) → other ≢ name → may_leave new other left → may_leave old other left
    pub out : (other : List ℕ) → other ≢ name → is_out old other → is_out new other
    pub stores : (other : List ℕ) → has old other → has new other
    pub no_more : (other : List ℕ) → other ≢ name → has new other → has old other
    pub files : (other file : List ℕ) → accounts old other file → accounts new other file

-- of a place that fails no more: it goes on so, and a call of what is there did not fail
pub record CallIsSteady {T : Type 0} (steady There : Type 0) (result : Result T Fault) : Type 0 where
  pub goes_on : steady
  pub no_fault : There → ¬ IsErrOf result Failed

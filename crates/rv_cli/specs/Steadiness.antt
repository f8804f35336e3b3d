-- Of a source, a sink, a keeper and a place that fail no more: they go on so, and no call of them failed; but of a sink where memory was
-- refused to it.
use Rattle.std.specs.Prelude.{ℕ, ◌≡◌, Result, Ok, Err}
use Rattle.rv_base.specs.Causes.{Rose}
use Rattle.rv_desk.specs.DeskStates.{DeskState}
use Rattle.rv_cli.specs.declared.ending.Ending.{Ending}
use Rattle.rv_cli.specs.declared.ending.Ending.TheVariants.{Keeper, Read, Write}
use Rattle.rv_cli.specs.declared.import_ending.ImportEnding.{ImportEnding}
use Rattle.rv_cli.specs.declared.import_ending.ImportEnding.TheVariants as imports
use Rattle.rv_cli.specs.declared.serve_ending.ServeEnding.{ServeEnding}
use Rattle.rv_cli.specs.declared.serve_ending.ServeEnding.TheVariants as serves

-- a source that fails no more goes on so, and no read failed
pub record InputIsSteady (steady : Type 0) (ending : Ending) : Type 0 where
  pub goes_on : steady
  pub no_fault : ending ≡ Read → ⊥

-- a sink that fails no more goes on so, and a write failed only where memory was refused to it
pub record OutputIsSteady (steady : Type 0) (before now : ℕ) (ending : Ending) : Type 0 where
  pub goes_on : steady
  pub only_memory : ending ≡ Write → Rose before now

-- the same of an ending of `serve`
pub record ServeIsSteady (steady : Type 0) (before now : ℕ) (ending : ServeEnding) : Type 0 where
  pub goes_on : steady
  pub only_memory : ending ≡ serves.Write → Rose before now

-- and of one of `import`
pub record ImportIsSteady (steady : Type 0) (before now : ℕ) (ending : ImportEnding) : Type 0 where
  pub goes_on : steady
  pub only_memory : ending ≡ imports.Write → Rose before now

-- the same after a line
abbrev pub LineIsSteady : Type 0 → ℕ → ℕ → Result (Unit {0}) Ending → Type 0
LineIsSteady steady before now (Ok done) = steady
LineIsSteady steady before now (Err ending) = OutputIsSteady steady before now ending

-- a keeper that fails no more goes on so, its count of faults stays, and it is not told to have failed
pub record KeeperIsSteady {K : Type 0} (fails_no_more : K → Type 0) (faults : K → ℕ) (before : K) (ended : Ending × K) : Type 0 where
  pub goes_on : fails_no_more ended.1
  pub still : faults ended.1 ≡ faults before
  pub no_fault : ended.0 ≡ Keeper → ⊥

-- a keeper that fails no more goes on so, and its count of faults stays
abbrev pub DeskKeepsSteady : {K : Type 0} → (K → Type 0) → (K → ℕ) → K → K → Type 0
DeskKeepsSteady fails_no_more faults before now = fails_no_more now × (faults now ≡ faults before)

-- after a line it goes on so, its count of faults stays, and it is not told to have failed
abbrev pub LineKeepsSteady : Type 0 → ℕ → ℕ → Result (Unit {0}) Ending → Type 0
LineKeepsSteady steady before now (Ok done) = steady × (now ≡ before)
LineKeepsSteady steady before now (Err ending) = (steady × (now ≡ before)) × (ending ≡ Keeper → ⊥)

-- the same of a store's desk, whose keeper is new, or of why there is none
abbrev pub DeskIsSteady : {K : Type 0} → (K → Type 0) → (K → ℕ) → Result (DeskState K) Ending → Type 0
DeskIsSteady fails_no_more faults (Ok desk) = fails_no_more desk.keeper × (faults desk.keeper ≡ 0)
DeskIsSteady fails_no_more faults (Err ending) = ending ≡ Keeper → ⊥

-- a place that fails no more goes on so, and the status is not that of a fault of it
pub record PlaceIsSteady {P : Type 0} (fails_no_more : P → Type 0) (new : P) (status : ℕ) : Type 0 where
  pub goes_on : fails_no_more new
  pub no_fault : status ≡ 4 → ⊥

-- the same of a check, whose keeper went back
abbrev pub CheckIsSteady : Result ℕ Ending → Type 0
CheckIsSteady (Ok entries) = Unit {0}
CheckIsSteady (Err ending) = ending ≡ Keeper → ⊥

-- and of the accounts, where their file is there: they are not wanting for a fault
abbrev pub AccountsAreSteady : {T : Type 0} → Result T ServeEnding → Type 0
AccountsAreSteady (Ok accounts) = Unit {0}
AccountsAreSteady (Err ending) = ending ≡ serves.NotOpened Keeper → ⊥

-- An input that is read as a whole.
use Rattle.std.specs.Prelude.{◌≡◌, ◌≤◌, ◌<◌, ℕ, List, length, Result, Ok, Err}
use Rattle.std.specs.Io.KnownBytes.{Consumes, IsAtEnd}
use Rattle.rv_base.specs.Causes.{Rose}
use Rattle.rv_base.specs.Outside.{InputState, counted}
use Rattle.rv_base.specs.declared.fault.Fault.{Fault}
use Rattle.rv_base.specs.declared.fault.Fault.TheVariants as outside
use Rattle.rv_cli.specs.declared.input_fault.InputFault.{InputFault}
use Rattle.rv_cli.specs.declared.input_fault.InputFault.TheVariants.{Read, TooLarge, Memory}

abbrev pub fault_of : Fault → InputFault
fault_of outside.Failed = Read
fault_of outside.Memory = Memory

-- These are all the bytes of the input, no more than an import may have. The end was told once.
pub record IsReadWhole (old new : InputState) (bytes : List ℕ) : Type 0 where
  pub consumed : Consumes old.left new.left bytes
  pub end : IsAtEnd new.left
  pub most : length bytes ≤ 16777216
  pub faults : new.faults ≡ old.faults
  pub ends : new.ends ≡ counted old.ends

-- so many bytes were read, and a read failed exactly at the fault of this name
abbrev pub FailsAfter : InputState → InputState → ℕ → InputFault → Type 0
FailsAfter old new count Read = Rose old.faults new.faults
FailsAfter old new count TooLarge = (new.faults ≡ old.faults) × (16777216 < count)
FailsAfter old new count Memory = new.faults ≡ old.faults

-- These bytes were read, of which the last read gave no more than 4,096 beyond the most of an import, and the end was not told.
pub record IsReadUntil (old new : InputState) (fault : InputFault) : Type 0 where
  pub bytes : List ℕ
  pub consumed : Consumes old.left new.left bytes
  pub most : length bytes ≤ 16781312
  pub why : FailsAfter old new (length bytes) fault
  pub ends : new.ends ≡ old.ends

abbrev pub ReadsInput : InputState → InputState → Result (List ℕ) InputFault → Type 0
ReadsInput old new (Ok bytes) = IsReadWhole old new bytes
ReadsInput old new (Err fault) = IsReadUntil old new fault

-- of a source that fails no more: it goes on so, and no read failed
abbrev pub WholeIsSteady : {T : Type 0} → Type 0 → Result T InputFault → Type 0
WholeIsSteady steady (Ok bytes) = steady
WholeIsSteady steady (Err fault) = steady × (fault ≡ Read → ⊥)

-- When an end says that a read or a write failed.
use Rattle.std.specs.Prelude.{◌≡◌, ◌⊎◌, ◌≤◌}
use Rattle.rv_base.specs.Causes.{Rose}
use Rattle.rv_base.specs.Outside.{InputState, OutputState}
use Rattle.rv_serve.specs.declared.conn_end.ConnEnd.{ConnEnd}
use Rattle.rv_serve.specs.declared.conn_end.ConnEnd.TheVariants.{Done, ReadFault, WriteFault, Memory}

-- a read failed exactly at the end of this name
abbrev pub InputCause : InputState → InputState → ConnEnd → Type 0
InputCause old new (Done count) = new.faults ≡ old.faults
InputCause old new ReadFault = Rose old.faults new.faults
InputCause old new WriteFault = new.faults ≡ old.faults
InputCause old new Memory = new.faults ≡ old.faults

-- A write failed exactly at the end of this name, but that the write of the last response may fail too where memory was refused.
abbrev pub OutputCause : OutputState → OutputState → ConnEnd → Type 0
OutputCause old new (Done count) = (new.faults ≡ old.faults) × (new.refusals ≡ old.refusals)
OutputCause old new ReadFault = (new.faults ≡ old.faults) × (new.refusals ≡ old.refusals)
OutputCause old new WriteFault = Rose old.faults new.faults × (old.refusals ≤ new.refusals)
OutputCause old new Memory = (old.faults ≤ new.faults) × (old.refusals ≤ new.refusals)

pub record ConnCause (input input' : InputState) (output output' : OutputState) (end : ConnEnd) : Type 0 where
  pub reads : InputCause input input' end
  pub writes : OutputCause output output' end

-- a source that fails no more goes on so, and no read failed
pub record ConnInputIsSteady (steady : Type 0) (end : ConnEnd) : Type 0 where
  pub goes_on : steady
  pub no_fault : end ≡ ReadFault → ⊥

-- a write failed only where memory was refused to the sink
abbrev pub FailsForMemory : OutputState → OutputState → ConnEnd → Type 0
FailsForMemory old new (Done count) = Unit {0}
FailsForMemory old new ReadFault = Unit {0}
FailsForMemory old new WriteFault = Rose old.refusals new.refusals
FailsForMemory old new Memory = (new.faults ≡ old.faults) ⊎ Rose old.refusals new.refusals

-- a sink that fails no more goes on so, and a write failed only where memory was refused to it
pub record ConnOutputIsSteady (steady : Type 0) (old new : OutputState) (end : ConnEnd) : Type 0 where
  pub goes_on : steady
  pub only_memory : FailsForMemory old new end

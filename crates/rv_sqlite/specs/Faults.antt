-- What a refused statement is to a keeper.
use Rattle.sqlite.specs.declared.error.Error.{Error}
use Rattle.sqlite.specs.declared.error.Error.TheVariants.{SqliteFailure}
use Rattle.sqlite.specs.declared.error.ErrorCode.TheVariants.{OutOfMemory}
use Rattle.rv_base.specs.declared.fault.Fault.{Fault}
use Rattle.rv_base.specs.declared.fault.Fault.TheVariants.{Failed, Memory}

-- want of memory, where that alone was the reason; else a fault
abbrev pub fault_of : Error → Fault
fault_of (SqliteFailure OutOfMemory) = Memory
fault_of error = Failed

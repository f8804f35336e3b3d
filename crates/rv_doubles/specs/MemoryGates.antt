-- What a gate in memory tells.
use Rattle.std.specs.Prelude.{List, Option, Some, None, if◌then◌else◌}
use Rattle.rv_serve.specs.declared.heard.Heard.{Heard}
use Rattle.rv_doubles.specs.declared.memory_gate.MemoryGate.{MemoryGate}

abbrev pub heard_by : MemoryGate → Option (List Heard)
heard_by gate = if gate.lost then None else Some gate.heard.items

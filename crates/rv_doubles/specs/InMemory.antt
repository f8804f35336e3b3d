-- The state of a source and of a sink in memory, and when they fail.
use Rattle.std.specs.Prelude.{ℕ, ◌+◌, ◌<◌, ◌==◌, ◌&&◌, not, min, max, Bool, List, length, drop, Some, Result, Ok, Err, is_err}
use Rattle.std.specs.List.{list_any, AllByRecursion}
use Rattle.rv_doubles.specs.declared.in_memory.MemorySource.{MemorySource}
use Rattle.rv_doubles.specs.declared.in_memory.MemorySink.{MemorySink}
use Rattle.rv_base.specs.Outside.{InputState, OutputState, counted, counted_if}

-- a source in memory tells its bytes from its position on
abbrev pub source_state : MemorySource → InputState
source_state s = record { left = Some (drop s.at s.bytes.items); faults = s.faults; ends = s.ends }

-- a sink in memory tells all that was written
abbrev pub sink_state : MemorySink → OutputState
sink_state s = record { written = Some s.bytes.items; faults = s.faults; refusals = s.refusals }

-- the call that comes after so many is one of those that are to fail
abbrev pub fails_next : ℕ → List ℕ → Bool
fails_next calls failing = list_any (λ call. call == counted calls) failing

-- no call to come is among those that are to fail: each of these is below the next
abbrev pub FailsNoMore : ℕ → List ℕ → Type 0
FailsNoMore calls failing = AllByRecursion (λ call. call < counted calls) failing

-- how many bytes one read or write moves at the most, of so many that there are
abbrev pub moved : ℕ → ℕ → ℕ
moved most there = min (max most 1) there

-- where the next byte of a source stands after a read
abbrev pub stands_after : {E : Type 0} → MemorySource → Result ℕ E → ℕ
stands_after s (Ok n) = min s.at (length s.bytes.items) + n
stands_after s (Err e) = s.at

-- how often memory was refused to a sink after a write: once more where one failed that was not to fail
abbrev pub refusals_after : {T E : Type 0} → MemorySink → Result T E → ℕ
refusals_after s result = counted_if (is_err result && not (fails_next s.calls s.failing.items)) s.refusals

-- What contracts see of the objects outside: of a source and of a sink.
use Rattle.std.specs.Prelude.{◌≡◌, ℕ, ◌+◌, ◌-◌, ◌^◌, ◌==◌, ◌&&◌, min, Bool, false, List, length, nat_lt, Result, Ok, Err, OnErr, if◌then◌else◌}
use Rattle.std.specs.declared.option.Option.{Option}
use Rattle.std.specs.Io.KnownBytes.{ReadConsumes, WriteAppends}
use Rattle.rv_base.specs.Causes.{HasCause, Counts, Rose}
use Rattle.rv_base.specs.Writes.{WritesText}

-- The bytes that a source has left, where it tells; how often a read has failed, and how often one has told the end.
pub record InputState : Type 0 where
  pub left : Option (List ℕ)
  pub faults : ℕ
  pub ends : ℕ

-- The bytes that were written to a sink, where it tells; how often a write has failed, and how often for want of memory.
pub record OutputState : Type 0 where
  pub written : Option (List ℕ)
  pub faults : ℕ
  pub refusals : ℕ

-- a count of one more, which stands still at its type's end
abbrev pub counted : ℕ → ℕ
counted n = min (n + 1) (2 ^ 64 - 1)

-- counts where the test holds
abbrev pub counted_if : Bool → ℕ → ℕ
counted_if test n = if test then counted n else n

-- no byte came into a piece that has space
abbrev pub is_end : ℕ → List ℕ → Bool
is_end count piece = count == 0 && nat_lt 0 (length piece)

-- a read tells the end by giving no byte into a piece that has space
abbrev pub read_is_end : {E : Type 0} → Result ℕ E → List ℕ → Bool
read_is_end (Ok count) piece = is_end count piece
read_is_end (Err e) piece = false

-- A read takes what it gives from the front of what is left, and nothing where it fails; it fails only where the count of
-- faults rises, and else that count stays; an end that is told is counted.
pub record Reads {E : Type 0} (old new : InputState) (result : Result ℕ E) (piece : List ℕ) : Type 0 where
  pub bytes : ReadConsumes old.left new.left result piece
  pub cause : HasCause old.faults new.faults result
  pub ends : new.ends ≡ counted_if (read_is_end result piece) old.ends

-- A write adds the bytes that it takes, and none where it fails; it fails only where the count of faults rises, and else
-- that count stays, and so does the count of refusals of memory.
pub record WritesSome {E : Type 0} (old new : OutputState) (result : Result ℕ E) (piece : List ℕ) : Type 0 where
  pub bytes : WriteAppends old.written new.written result piece
  pub cause : HasCause old.faults new.faults result
  pub memory : Counts old.refusals new.refusals result

-- The same of a whole text: all of it is written, or where a write fails a front of it that lacks some bytes.
pub record Writes {T E : Type 0} (old new : OutputState) (result : Result T E) (text : List ℕ) : Type 0 where
  pub bytes : WritesText old.written new.written result text
  pub cause : HasCause old.faults new.faults result
  pub memory : Counts old.refusals new.refusals result

-- of a sink that fails no more: it goes on so, and a write fails only where memory was refused to it
pub record IsSteady {T E : Type 0} (steady : Type 0) (old new : OutputState) (result : Result T E) : Type 0 where
  pub goes_on : steady
  pub only_memory : OnErr result (Rose old.refusals new.refusals)

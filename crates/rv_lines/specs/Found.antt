-- Where the next line of a buffer ends, and one read into it.
use Rattle.std.specs.Prelude.{ℕ, ◌≡◌, ◌≤◌, ◌<◌, ◌++◌, ◌==◌, List, length, take, slice_index, Bool, true, false, MatchBool, Result, Ok, Err}
use Rattle.std.specs.declared.option.Option.{Option}
use Rattle.std.specs.Io.KnownBytes.{Keeps, Consumes, IsAtEnd, prepend_known}
use Rattle.rv_base.specs.Causes.{Rose}
use Rattle.rv_base.specs.Outside.{InputState, counted_if}
use Rattle.rv_base.specs.declared.fault.Fault.{Fault}
use Rattle.rv_base.specs.declared.fault.Fault.TheVariants.{Failed, Memory}
use Rattle.rv_lines.specs.declared.line_reader.Found.{Found}
use Rattle.rv_lines.specs.declared.line_reader.Found.TheVariants.{At, Rest, Long}
use Rattle.rv_lines.specs.Lines.{HasNoLf, BeginsLong, longest_line}
use Rattle.rv_lines.specs.Reading.{read_failed}

-- what is found in the buffer, with what is left of the source
abbrev pub FindsLine : List ℕ → Option (List ℕ) → Result Found Fault → Type 0
FindsLine buffer left (Ok (At i)) = (i < length buffer) × (i ≤ longest_line) × HasNoLf (take i buffer) × (slice_index buffer i ≡ 10)
FindsLine buffer left (Ok Rest) = (length buffer ≤ longest_line) × HasNoLf buffer × IsAtEnd left
FindsLine buffer left (Ok Long) = BeginsLong buffer
FindsLine buffer left (Err Failed) = HasNoLf buffer
FindsLine buffer left (Err Memory) = Unit {0}

-- the end of the input was found
abbrev pub finds_end : Result Found Fault → Bool
finds_end (Ok (At i)) = false
finds_end (Ok Rest) = true
finds_end (Ok Long) = false
finds_end (Err fault) = false

-- a buffer may have taken bytes from the source, and none are lost
abbrev pub KeepsUnread : List ℕ → Option (List ℕ) → List ℕ → Option (List ℕ) → Type 0
KeepsUnread buffer left buffer' left' = Keeps (prepend_known buffer left) (prepend_known buffer' left')

-- what one read adds to a buffer
abbrev pub AddsPiece : List ℕ → InputState → List ℕ → InputState → Result ℕ Fault → Type 0
AddsPiece buffer old buffer' new (Ok count) = (piece : List ℕ) × (buffer' ≡ buffer ++ piece) × (length piece ≡ count) × (count ≤ 4096) × Consumes old.left new.left piece × (count ≡ 0 → IsAtEnd new.left)
AddsPiece buffer old buffer' new (Err fault) = (buffer' ≡ buffer) × Keeps old.left new.left

-- the read told the end
abbrev pub reads_end : Result ℕ Fault → Bool
reads_end (Ok count) = count == 0
reads_end (Err fault) = false

-- one read: the bytes that it adds, and the counts
pub record ReadsPiece (buffer : List ℕ) (old : InputState) (buffer' : List ℕ) (new : InputState) (result : Result ℕ Fault) : Type 0 where
  pub bytes : AddsPiece buffer old buffer' new result
  pub faults : MatchBool (read_failed result) (Rose old.faults new.faults) (new.faults ≡ old.faults)
  pub ends : new.ends ≡ counted_if (reads_end result) old.ends

-- What a reader of lines has, what it gives next, and what it reads for that.
use Rattle.std.specs.Prelude.{ℕ, ◌≡◌, ◌≤◌, ◌<◌, ◌++◌, ◌⊎◌, [], ◌∷◌, List, length, Bool, true, false, MatchBool, Result, Ok, Err}
use Rattle.std.specs.declared.option.Option.{Option}
use Rattle.std.specs.Io.KnownBytes.{Keeps, Consumes, IsAtEnd, prepend_known}
use Rattle.rv_base.specs.Causes.{Rose}
use Rattle.rv_base.specs.Outside.{InputState, counted_if}
use Rattle.rv_base.specs.declared.fault.Fault.{Fault}
use Rattle.rv_base.specs.declared.fault.Fault.TheVariants.{Failed, Memory}
use Rattle.rv_lines.specs.declared.next.Next.{Next}
use Rattle.rv_lines.specs.declared.next.Next.TheVariants.{Line, Last, End, TooLong}
use Rattle.rv_lines.specs.Lines.{HasNoLf, BeginsLong, longest_line}

-- the line that was read last, and what was taken from the source and not given yet
pub record Reading : Type 0 where
  pub line : List ℕ
  pub pending : List ℕ

-- what wasn't given yet: what waits, and what is left of the source
abbrev pub unread : List ℕ → Option (List ℕ) → Option (List ℕ)
unread pending left = prepend_known pending left

-- old and new are what wasn't given before the call and after it
abbrev pub GivesNext : Option (List ℕ) → Option (List ℕ) → Reading → Result Next Fault → Type 0
GivesNext old new now (Ok Line) = HasNoLf now.line × (length now.line ≤ longest_line) × Consumes old new (now.line ++ 10 ∷ [])
GivesNext old new now (Ok Last) = HasNoLf now.line × (0 < length now.line) × (length now.line ≤ longest_line) × Consumes old new now.line × IsAtEnd new
GivesNext old new now (Ok End) = Keeps old new × IsAtEnd new
GivesNext old new now (Ok TooLong) = Keeps old new × BeginsLong now.pending
-- what was read of a line stays
GivesNext old new now (Err Failed) = Keeps old new × HasNoLf now.pending
GivesNext old new now (Err Memory) = Keeps old new

-- a read told the end
abbrev pub gives_end : Result Next Fault → Bool
gives_end (Ok Line) = false
gives_end (Ok Last) = true
gives_end (Ok End) = true
gives_end (Ok TooLong) = false
gives_end (Err fault) = false

-- a read failed
abbrev pub read_failed : {T : Type 0} → Result T Fault → Bool
read_failed (Ok x) = false
read_failed (Err Failed) = true
read_failed (Err Memory) = false

-- Nothing was read; or the last of what was read is one piece, and before it no whole line was there.
abbrev pub ReadsAhead : List ℕ → InputState → InputState → Type 0
ReadsAhead pending old new =
    Keeps old.left new.left
    ⊎ ((more piece : List ℕ) × Consumes old.left new.left (more ++ piece) × (length piece ≤ 4096) × HasNoLf (pending ++ more) × (length (pending ++ more) ≤ longest_line))

-- What is read for the next line, where these bytes wait. The count of faults rises exactly where a read failed, and that
-- of ends where one told the end.
pub record ReadsFor (pending : List ℕ) (old new : InputState) (ended failed : Bool) : Type 0 where
  pub faults : MatchBool failed (Rose old.faults new.faults) (new.faults ≡ old.faults)
  pub ends : new.ends ≡ counted_if ended old.ends
  pub ahead : ReadsAhead pending old new

-- of a source that fails no more: it goes on so, and no read failed
pub record NextLineIsSteady {T : Type 0} (steady : Type 0) (result : Result T Fault) : Type 0 where
  pub goes_on : steady
  pub no_fault : read_failed result ≡ false

-- Runs over lines, over whoever takes them: what a line is, what a run over lines answers, how it ends, and what it reads and writes.
use Rattle.std.specs.Prelude.{ℕ, ◌≡◌, ◌≢◌, ◌+◌, ◌^◌, ◌⊎◌, ◌&&◌, List, [], ◌∷◌, ◌++◌, length, nat_le, nat_lt, Option, Some, None, IfSome, if◌then◌else◌}
use Rattle.std.specs.List.{flat_map}
use Rattle.std.specs.Option.{option_map_or}
use Rattle.std.specs.Io.KnownBytes.{Consumes, Appends}
use Rattle.rv_base.specs.Causes.{Rose}
use Rattle.rv_base.specs.Outside.{InputState, OutputState, counted}
use Rattle.rv_base.specs.Writes.{IsFront}
use Rattle.rv_lines.specs.Lines.{lines_of, ended_lines_of, longest_line}
use Rattle.rv_lines.specs.Taken.{IsNeeded}
use Rattle.rv_cli.specs.declared.ending.Ending.{Ending}
use Rattle.rv_cli.specs.declared.ending.Ending.TheVariants.{Done, Keeper, Damaged, Read, Write, Memory, Malformed}
use Rattle.rv_cli.specs.Texts.{status_text}

-- What takes lines: its states, what a line is, and what it answers.
pub record Lines : Type 1 where
  pub State : Type 0
  pub Line : Type 0
  pub Answer : Type 0
  -- what these bytes are, where they are of the form
  pub read : List ℕ → Option Line
  -- A line is taken, and has an answer or none. The first says whether what is kept is told.
  pub Takes : Type 0 → State → Line → Option Answer → State → Type 0
  -- the line of an answer
  pub text : Answer → List ℕ
  -- what was read of a line is a stop: after it the lines may end, since what keeps the state failed
  pub IsStop : Option Line → Type 0
  -- what was read of a line is refused at this state, and the lines end with it; so is each that is not of the form
  pub Refuses : State → Option Line → Type 0
  pub refuses_none : (state : State) → Refuses state None

module _ (L : Lines) where
  -- ---- A line.

  -- What the line with this number, from 1, is, where it is of the form: it is no longer than a line may be, its number is below
  -- 2^32, and its bytes are read.
  abbrev pub line_at : ℕ → List ℕ → Option L.Line
  line_at number line = if nat_le (length line) longest_line && nat_lt number (2 ^ 32) then L.read line else None

  -- each of these lines, numbered on from this number, is of the form and is this
  abbrev pub Are : ℕ → List (List ℕ) → List L.Line → Type 0
  Are number [] [] = Unit {0}
  Are number (bytes ∷ rest) (line ∷ lines) = (line_at number bytes ≡ Some line) × Are (number + 1) rest lines
  Are number [] (line ∷ lines) = ⊥
  Are number (bytes ∷ rest) [] = ⊥

  -- ---- What is answered.

  -- lines are taken one after another
  abbrev pub Run : Type 0 → L.State → List L.Line → List (Option L.Answer) → L.State → Type 0
  Run Told old [] [] new = new ≡ old
  Run Told old (line ∷ lines) (answer ∷ answers) new = (mid : L.State) × L.Takes Told old line answer mid × Run Told mid lines answers new
  Run Told old [] (answer ∷ answers) new = ⊥
  Run Told old (line ∷ lines) [] new = ⊥

  -- a run over some lines leads from the first state to this one
  abbrev pub IsReached : Type 0 → L.State → L.State → Type 0
  IsReached Told first now = (lines : List L.Line) × (answers : List (Option L.Answer)) × Run Told first lines answers now

  -- the line of an answer; what has none writes nothing
  abbrev pub told_text : Option L.Answer → List ℕ
  told_text answer = option_map_or L.text answer []

  -- A run from the first state takes what these lines are, and writes this text.
  pub record Answered (Told : Type 0) (first : L.State) (lines : List (List ℕ)) (text : List ℕ) (now : L.State) : Type 0 where
    pub taken : List L.Line
    pub answers : List (Option L.Answer)
    pub are : Are 1 lines taken
    pub run : Run Told first taken answers now
    pub told : text ≡ flat_map told_text answers

  -- ---- How a run over lines ends.

  -- Of the last line that is examined only a front of the answer was written. The lines before it are answered.
  pub record IsCutOff (Told : Type 0) (first : L.State) (bytes read text : List ℕ) (now : L.State) : Type 0 where
    pub lines : List (List ℕ)
    pub line : List ℕ
    pub others : List (List ℕ)
    pub are : lines_of bytes ≡ lines ++ line ∷ others
    pub within : (more : List (List ℕ)) × (lines_of read ≡ lines ++ line ∷ more)
    pub needed : IsNeeded read (length lines + 1)
    pub before : List ℕ
    pub mid : L.State
    pub answered : Answered Told first lines before mid
    pub taken : L.Line
    pub asks : line_at (length lines + 1) line ≡ Some taken
    pub answer : L.Answer
    pub step : L.Takes Told mid taken (Some answer) now
    pub part : List ℕ
    pub told : text ≡ before ++ part
    pub front : IsFront part (L.text answer)

  -- The line with this number is the first that is refused, and all lines before it are answered.
  pub record StopsAt (Told : Type 0) (first : L.State) (number : ℕ) (bytes read text : List ℕ) (now : L.State) : Type 0 where
    pub lines : List (List ℕ)
    pub line : List ℕ
    pub others : List (List ℕ)
    pub are : lines_of bytes ≡ lines ++ line ∷ others
    pub count : number ≡ length lines + 1
    pub refused : L.Refuses now (line_at number line)
    pub needed : IsNeeded read (length lines + 1)
    pub answered : Answered Told first lines text now

  -- These first lines are answered, and memory was refused before it was known what the next one is, or at a stop. There is a next one,
  -- or no read has told the end.
  pub record StopsAfter (Told : Type 0) (first : L.State) (bytes : List ℕ) (input input' : InputState) (read text : List ℕ) (now : L.State) : Type 0 where
    pub lines : List (List ℕ)
    pub others : List (List ℕ)
    pub are : lines_of bytes ≡ lines ++ others
    pub waits : (others ≢ []) ⊎ (input'.ends ≡ input.ends)
    pub needed : IsNeeded read (length lines + 1)
    pub answered : Answered Told first lines text now

  -- The next line is a stop, at which the lines end. Those before it are answered.
  pub record StaysClosed (Told : Type 0) (first : L.State) (bytes read text : List ℕ) (now : L.State) : Type 0 where
    pub lines : List (List ℕ)
    pub line : List ℕ
    pub others : List (List ℕ)
    pub are : lines_of bytes ≡ lines ++ line ∷ others
    pub stop : L.IsStop (line_at (length lines + 1) line)
    pub needed : IsNeeded read (length lines + 1)
    pub answered : Answered Told first lines text now

  -- A run over these bytes, of which some were read, may end so, with this text of answers and this state. The input was so before and
  -- is so afterwards.
  abbrev pub Ends : Type 0 → L.State → List ℕ → InputState → InputState → List ℕ → List ℕ → L.State → Ending → Type 0
  -- the input was read to its end, and all its lines are answered
  Ends Told first bytes input input' read text now Done = (read ≡ bytes) × Answered Told first (lines_of bytes) text now
  -- a read failed, and all lines whose LF was read are answered
  Ends Told first bytes input input' read text now Read = Answered Told first (ended_lines_of read) text now × IsNeeded read (length (ended_lines_of read) + 1)
  Ends Told first bytes input input' read text now Write = IsCutOff Told first bytes read text now
  Ends Told first bytes input input' read text now Memory = StopsAfter Told first bytes input input' read text now
  Ends Told first bytes input input' read text now (Malformed number) = StopsAt Told first number bytes read text now
  Ends Told first bytes input input' read text now Keeper = StaysClosed Told first bytes read text now
  Ends Told first bytes input input' read text now (Damaged damage) = StaysClosed Told first bytes read text now

  -- where the source tells and all its lines are of the form, P
  abbrev pub AllAre : Option (List ℕ) → Type 0 → Type 0
  AllAre left P = IfSome left (λ bytes. (taken : List L.Line) → Are 1 (lines_of bytes) taken → P)

-- ---- What is written, and what is read.

-- the text, and no write failed; or a front of it, and one did
abbrev pub IsPart : ℕ → ℕ → List ℕ → List ℕ → Type 0
IsPart before now own text = ((own ≡ text) × (now ≡ before)) ⊎ (IsFront own text × Rose before now)

-- What was written of the status's own text, by the count of the output's faults: all of it, and no write failed; or a
-- front of it, and one did. After a failed write of an answer nothing more is written.
abbrev pub IsOwnText : ℕ → ℕ → List ℕ → Ending → Type 0
IsOwnText before now own Write = (own ≡ []) × Rose before now
IsOwnText before now own Done = (own ≡ []) × (now ≡ before)
IsOwnText before now own Keeper = IsPart before now own (status_text Keeper)
IsOwnText before now own (Damaged damage) = IsPart before now own (status_text (Damaged damage))
IsOwnText before now own Read = IsPart before now own (status_text Read)
IsOwnText before now own Memory = IsPart before now own (status_text Memory)
IsOwnText before now own (Malformed number) = IsPart before now own (status_text (Malformed number))

-- The bytes that were read are the front of the input's, and what was added to the output is the text of the answers, and
-- then the status's own.
pub record Fed (L : Lines) (Told : Type 0) (first now : L.State) (bytes : List ℕ) (input input' : InputState) (output output' : OutputState) (ending : Ending) : Type 0 where
  pub read : List ℕ
  pub text : List ℕ
  pub own : List ℕ
  pub consumed : Consumes (Some bytes) input'.left read
  pub appended : Appends output.written output'.written (text ++ own)
  pub ends : Ends L Told first bytes input input' read text now ending
  pub status : IsOwnText output.faults output'.faults own ending

-- A failed read is told by its status, and by no other; nothing is read after the end.
abbrev pub ReadsSo : InputState → InputState → Ending → Type 0
ReadsSo old new Done = (new.faults ≡ old.faults) × (new.ends ≡ counted old.ends)
ReadsSo old new Read = Rose old.faults new.faults × (new.ends ≡ old.ends)
ReadsSo old new Write = (new.faults ≡ old.faults) × ((new.ends ≡ old.ends) ⊎ (new.ends ≡ counted old.ends))
ReadsSo old new Keeper = (new.faults ≡ old.faults) × ((new.ends ≡ old.ends) ⊎ (new.ends ≡ counted old.ends))
ReadsSo old new (Damaged damage) = (new.faults ≡ old.faults) × ((new.ends ≡ old.ends) ⊎ (new.ends ≡ counted old.ends))
ReadsSo old new Memory = (new.faults ≡ old.faults) × ((new.ends ≡ old.ends) ⊎ (new.ends ≡ counted old.ends))
ReadsSo old new (Malformed number) = (new.faults ≡ old.faults) × ((new.ends ≡ old.ends) ⊎ (new.ends ≡ counted old.ends))

-- A failed write of an answer is told by its status, and by no other; that of a status's own text is not told.
abbrev pub WritesSo : ℕ → ℕ → Ending → Type 0
WritesSo before now Done = now ≡ before
WritesSo before now Write = Rose before now
WritesSo before now Keeper = (now ≡ before) ⊎ Rose before now
WritesSo before now (Damaged damage) = (now ≡ before) ⊎ Rose before now
WritesSo before now Read = (now ≡ before) ⊎ Rose before now
WritesSo before now Memory = (now ≡ before) ⊎ Rose before now
WritesSo before now (Malformed number) = (now ≡ before) ⊎ Rose before now

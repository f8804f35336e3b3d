-- What becomes of one line, and of all lines before the status's own text is written, over whoever takes them.
use Rattle.std.specs.Prelude.{ℕ, ◌≡◌, ◌≤◌, List, Bool, true, false, Option, Some, None, IfSome, Result, Ok, Err}
use Rattle.std.specs.Io.KnownBytes.{Consumes, Appends}
use Rattle.rv_base.specs.Causes.{Rose}
use Rattle.rv_base.specs.Outside.{InputState, OutputState}
use Rattle.rv_base.specs.Writes.{AppendsFront}
use Rattle.rv_base.specs.declared.fault.Fault.{Fault}
use Rattle.rv_base.specs.declared.fault.Fault.TheVariants as faults
use Rattle.rv_lines.specs.declared.next.Next.{Next}
use Rattle.rv_lines.specs.declared.next.Next.TheVariants.{Line, Last, End, TooLong}
use Rattle.rv_cli.specs.declared.ending.Ending.{Ending}
use Rattle.rv_cli.specs.declared.ending.Ending.TheVariants.{Done, Keeper, Damaged, Read, Write, Memory, Malformed}
use Rattle.rv_cli.specs.LineRuns.{Lines, Ends, IsReached, ReadsSo}

-- ---- What was read.

-- whether the line that was read ends with the input; or how the lines end without one
abbrev pub found_line : Result Next Fault → ℕ → Result Bool Ending
found_line (Ok Line) number = Ok false
found_line (Ok Last) number = Ok true
found_line (Ok End) number = Err Done
found_line (Ok TooLong) number = Err (Malformed number)
found_line (Err faults.Failed) number = Err Read
found_line (Err faults.Memory) number = Err Memory

-- ---- One line.

-- counts of an output that stay
pub record OutputStays (old new : OutputState) : Type 0 where
  pub faults : new.faults ≡ old.faults
  pub refusals : new.refusals ≡ old.refusals

-- at the ending of that name a fault rose, and a damage comes only of what doesn't tell
abbrev pub RoseAt : {T : Type 0} → (T → Type 0) → (T → ℕ) → Ending → ℕ → T → Type 0
RoseAt tells faults Keeper before now = Rose before (faults now)
RoseAt tells faults (Damaged damage) before now = tells now → ⊥
RoseAt tells faults ending before now = Unit {0}

-- a write failed exactly at the ending of this name
abbrev pub AnswerFaults : ℕ → ℕ → Ending → Type 0
AnswerFaults before now Write = Rose before now
AnswerFaults before now Done = now ≡ before
AnswerFaults before now Keeper = now ≡ before
AnswerFaults before now (Damaged damage) = now ≡ before
AnswerFaults before now Read = now ≡ before
AnswerFaults before now Memory = now ≡ before
AnswerFaults before now (Malformed number) = now ≡ before

module _ (L : Lines) where
  -- what a line does where the one is told, it does where the other is
  abbrev pub TakesLater : Type 0 → Type 0 → Type 0
  TakesLater Told Now = (old new : L.State) (line : L.Line) (answer : Option L.Answer) → L.Takes Told old line answer new → L.Takes Now old line answer new

  -- the line is of the form, and has this answer or none
  pub record LineStep (Told : Type 0) (old : L.State) (line : List ℕ) (answer : Option L.Answer) (new : L.State) : Type 0 where
    pub taken : L.Line
    pub asks : L.read line ≡ Some taken
    pub step : L.Takes Told old taken answer new

  -- the text of an answer was added; where there is none the output is let alone
  abbrev pub Adds : Option L.Answer → OutputState → OutputState → Type 0
  Adds (Some answer) before now = Appends before.written now.written (L.text answer) × OutputStays before now
  Adds None before now = now ≡ before

  -- a line after which the lines go on
  pub record LineGoesOn (Told : Type 0) (old : L.State) (line : List ℕ) (new : L.State) (before now : OutputState) : Type 0 where
    pub answer : Option L.Answer
    pub step : LineStep Told old line answer new
    pub adds : Adds answer before now

  -- a line of whose answer a front was written
  pub record CutsAnswer (Told : Type 0) (old : L.State) (line : List ℕ) (new : L.State) (before now : OutputState) : Type 0 where
    pub answer : L.Answer
    pub step : LineStep Told old line (Some answer) new
    pub front : AppendsFront before.written now.written (L.text answer)
    pub rose : Rose before.faults now.faults

  -- a line with this number at which the lines end so, with this state
  abbrev pub EndsLine : Type 0 → L.State → List ℕ → ℕ → L.State → OutputState → OutputState → Ending → Type 0
  EndsLine Told old line number new before now (Malformed n) = (n ≡ number) × L.Refuses old (L.read line) × (new ≡ old) × (now ≡ before)
  EndsLine Told old line number new before now Write = CutsAnswer Told old line new before now
  EndsLine Told old line number new before now Memory = (new ≡ old) × (now ≡ before)
  EndsLine Told old line number new before now Keeper = L.IsStop (L.read line) × (new ≡ old) × (now ≡ before)
  EndsLine Told old line number new before now (Damaged damage) = L.IsStop (L.read line) × (new ≡ old) × (now ≡ before)
  EndsLine Told old line number new before now Done = ⊥
  EndsLine Told old line number new before now Read = ⊥

  -- ---- All lines.

  -- what was read, and the text of answers that was added
  pub record FedAnswers (Told : Type 0) (first now : L.State) (bytes : List ℕ) (input input' : InputState) (output output' : OutputState) (ending : Ending) : Type 0 where
    pub read : List ℕ
    pub text : List ℕ
    pub consumed : Consumes (Some bytes) input'.left read
    pub appended : Appends output.written output'.written text
    pub ends : Ends L Told first bytes input input' read text now ending

  -- how the lines end
  pub record Feeds (Told : Type 0) (first now : L.State) (input input' : InputState) (output output' : OutputState) (ending : Ending) : Type 0 where
    pub reads : ReadsSo input input' ending
    pub writes : AnswerFaults output.faults output'.faults ending
    pub reached : IsReached L Told first now
    pub fed : IfSome input.left (λ bytes. FedAnswers Told first now bytes input input' output output' ending)

-- ---- Who takes the lines.

-- What is seen of who takes lines: its state, whether it tells what it keeps, how often keeping has failed and whether it fails no more,
-- and as which states it may stand once the lines have ended.
pub record Taker (T : Type 0) : Type 1 where
  pub lines : Lines
  pub state : T → lines.State
  pub tells : T → Type 0
  pub faults : T → ℕ
  pub fails_no_more : T → Type 0
  -- it stands as this state, but that keeping may have failed since
  pub Stands : lines.State → T → Type 0

module _ {T : Type 0} (taker : Taker T) where
  -- a line was taken
  pub record TookLine (old : T) (line : List ℕ) (new : T) (before now : OutputState) : Type 0 where
    pub goes : LineGoesOn taker.lines (taker.tells new) (taker.state old) line (taker.state new) before now
    pub told : taker.tells new → taker.tells old
    pub later : taker.faults old ≤ taker.faults new

  -- the lines end with this line, and who took it stands as the state that is left
  pub record EndedLine (old : T) (line : List ℕ) (number : ℕ) (ending : Ending) (last : T) (before now : OutputState) : Type 0 where
    pub new : taker.lines.State
    pub ends : EndsLine taker.lines (taker.tells last) (taker.state old) line number new before now ending
    pub stands : taker.Stands new last
    pub told : taker.tells last → taker.tells old
    pub rose : RoseAt taker.tells taker.faults ending (taker.faults old) last

  -- what becomes of a line
  abbrev pub TakesLine : T → List ℕ → ℕ → Result (Unit {0}) Ending → T → OutputState → OutputState → Type 0
  TakesLine old line number (Ok done) new before now = TookLine old line new before now
  TakesLine old line number (Err ending) new before now = EndedLine old line number ending new before now

  -- how the lines end, and what who took them stands as
  pub record TakesLines (first : T) (input input' : InputState) (output output' : OutputState) (ending : Ending) (last : T) : Type 0 where
    pub now : taker.lines.State
    pub feeds : Feeds taker.lines (taker.tells last) (taker.state first) now input input' output output' ending
    pub stands : taker.Stands now last
    pub told : taker.tells last → taker.tells first
    pub rose : RoseAt taker.tells taker.faults ending (taker.faults first) last

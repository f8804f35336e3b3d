-- What `run` promises of `import`: the input is read whole, and its records are turns of a server, from the book that the store was kept
-- as to the book that it is left as.
use Rattle.std.specs.Prelude.{◌≡◌, ◌⊎◌, ℕ, List, Result, Ok, Err}
use Rattle.std.specs.Io.KnownBytes.{Appends}
use Rattle.rv_base.specs.Causes.{Rose}
use Rattle.rv_base.specs.Outside.{InputState, OutputState}
use Rattle.rv_base.specs.Writes.{AppendsFront}
use Rattle.rv_keeper.specs.declared.keeper.Keeper.{Ghosts}
use Rattle.rv_turns.specs.Asks.{Ask}
use Rattle.rv_turns.specs.Outcomes.{IsChanged, trouble_of}
use Rattle.rv_turns.specs.declared.pushing.Outcome.{Outcome}
use Rattle.rv_wire.specs.Answers.{pull_json}
use Rattle.rv_history.specs.Served.{Served, TakesTurn}
use Rattle.rv_doubt.specs.Kept.{KeepsBook}
use Rattle.rv_desk.specs.DeskStates.{DeskTakes, IsSoundDesk, DeskState}
use Rattle.rv_import.specs.Importing.{Imports, import_text}
use Rattle.rv_import.specs.declared.import_end.ImportEnd.{ImportEnd}
use Rattle.rv_import.specs.declared.import_end.ImportEnd.TheVariants as ends
use Rattle.rv_cli.specs.declared.ending.Ending.{Ending}
use Rattle.rv_cli.specs.declared.import_ending.ImportEnding.{ImportEnding}
use Rattle.rv_cli.specs.declared.import_ending.ImportEnding.TheVariants.{Done, Read, TooLarge, BadRecord, Refused, Memory, Write}
use Rattle.rv_cli.specs.declared.input_fault.InputFault.{InputFault}
use Rattle.rv_cli.specs.declared.input_fault.InputFault.TheVariants as faults
use Rattle.rv_cli.specs.Change.{StoreChange}
use Rattle.rv_cli.specs.Headline.{Begins, IsLeftAs, Leaves, NotFed, WritesOnly}
use Rattle.rv_cli.specs.Input.{IsReadUntil, IsReadWhole}
use Rattle.rv_cli.specs.Texts.{import_status, import_ending_text, status_of}

-- A turn of a server. Where what is kept is told, its trouble is not that another changed it.
pub record TakesNear (Told : Type 0) (old : Served) (ask : Ask) (outcome : Outcome) (new : Served) : Type 0 where
  pub turn : TakesTurn pull_json old ask outcome new
  pub near : Told → ¬ IsChanged (trouble_of outcome)

-- The input was read whole, and its bytes were imported; or it was not, and no turn was taken.
abbrev pub ImportsInput : {S : Type 0} → (S → Ask → Outcome → S → Type 0) → List ℕ → List ℕ → S → InputState → InputState → Result ImportEnd InputFault → S → Type 0
ImportsInput takes user name old before after (Ok end) new = (bytes : List ℕ) × IsReadWhole before after bytes × Imports takes user name bytes old end new
ImportsInput takes user name old before after (Err fault) new = IsReadUntil before after fault × (new ≡ old)

-- the ending by what came of the input
abbrev pub ending_of : Result ImportEnd InputFault → ImportEnding
ending_of (Ok (ends.Done counts)) = Done
ending_of (Ok ends.TooLarge) = TooLarge
ending_of (Ok (ends.BadRecord number)) = BadRecord number
ending_of (Ok (ends.Refused refusal)) = Refused refusal
ending_of (Ok ends.Memory) = Memory
ending_of (Err faults.Read) = Read
ending_of (Err faults.TooLarge) = TooLarge
ending_of (Err faults.Memory) = Memory

-- what was written of the text of the counts: all of it; or a front of it, and a write failed; or none, and memory was refused for it
abbrev pub WritesCounts : OutputState → OutputState → List ℕ → ImportEnding → Type 0
WritesCounts old new text Done = Appends old.written new.written text × (new.faults ≡ old.faults)
WritesCounts old new text Write = AppendsFront old.written new.written text × Rose old.faults new.faults
WritesCounts old new text Memory = WritesOnly old new (import_ending_text Memory)
WritesCounts old new text ending = ⊥

-- what was written: after all records how many there were, and else the text of the ending alone
abbrev pub WritesCame : OutputState → OutputState → Result ImportEnd InputFault → ImportEnding → Type 0
WritesCame old new (Ok (ends.Done counts)) ending = WritesCounts old new (import_text counts) ending
WritesCame old new came ending = (ending ≡ ending_of came) × WritesOnly old new (import_ending_text ending)

module _ (c : StoreChange) where
  -- the store was opened, and this came of the input, and was written
  pub record HasImported (user name : List ℕ) (input input' : InputState) (output output' : OutputState) (ending : ImportEnding) : Type 0 where
    pub first : Served
    pub now : Served
    pub begins : Begins c first
    pub came : Result ImportEnd InputFault
    pub imports : ImportsInput (TakesNear c.told) user name first input input' came now
    pub writes : WritesCame output output' came ending
    pub leaves : Leaves c now

  -- the status is that of an ending: the store did not open, and nothing was read; or the input was imported so
  abbrev pub RunsImport : List ℕ → List ℕ → InputState → InputState → OutputState → OutputState → ℕ → Type 0
  RunsImport user name input input' output output' status =
      ((ending : Ending) × (status ≡ status_of ending) × NotFed c input input' output output' ending × IsLeftAs c)
      ⊎ ((ending : ImportEnding) × (status ≡ import_status ending) × HasImported user name input input' output output' ending)

-- what came of the input at a desk, which is sound, and the keeper that is left
pub record ImportsWith {K : Type 0} (G : Ghosts K) (old : DeskState K) (user name : List ℕ) (before after : InputState) (told : Result ImportEnd InputFault × K) : Type 0 where
  pub new : DeskState K
  pub imports : ImportsInput (DeskTakes G) user name old before after told.0 new
  pub keeper : told.1 ≡ new.keeper
  pub kept : KeepsBook G new.keeper new.book new.doubt
  pub sound : IsSoundDesk new

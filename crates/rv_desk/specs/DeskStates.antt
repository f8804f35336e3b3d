-- A desk over a keeper, as contracts see it.
use Rattle.std.specs.Prelude.{ℕ, ◌+◌, ◌≤◌, ◌<◌, ◌^◌, IfSome}
use Rattle.rv_book.specs.Book.{Book}
use Rattle.rv_turns.specs.Asks.{Ask}
use Rattle.rv_turns.specs.Outcomes.{trouble_of}
use Rattle.rv_turns.specs.declared.pushing.Outcome.{Outcome}
use Rattle.rv_wire.specs.Answers.{pull_json}
use Rattle.rv_history.specs.Reading.{turn_steps}
use Rattle.rv_history.specs.Served.{Doubt, MayStand, Served, TakesTurn}
use Rattle.rv_keeper.specs.declared.keeper.Keeper.{Ghosts}
use Rattle.rv_state.specs.Ready.{NextFits}
use Rattle.rv_store.specs.Opening.{IsSoundBook}
use Rattle.rv_doubt.specs.Kept.{Assures, KeepsBook}

-- the book, the most entries that it may have, what is in doubt, and the keeper
pub record DeskState (K : Type 0) : Type 0 where
  pub book : Book
  pub limit : ℕ
  pub doubt : Doubt
  pub keeper : K

-- the same with the keeper's count of faults
abbrev pub served : {K : Type 0} → (K → ℕ) → DeskState K → Served
served faults desk = record { book = desk.book; limit = desk.limit; doubt = desk.doubt; faults = faults desk.keeper }

-- what keeps a desk keeps its book, with what is in doubt
abbrev pub DeskKeeps : {K : Type 0} → Ghosts K → DeskState K → Type 0
DeskKeeps G desk = KeepsBook G desk.keeper desk.book desk.doubt

-- What is known of a desk: its book is lawful, within the limit and of the form; and what is in doubt may come next, and is of the form.
pub record IsSoundDesk {K : Type 0} (desk : DeskState K) : Type 0 where
  pub book : IsSoundBook desk.limit desk.book
  pub small : desk.limit < 2 ^ 32
  pub fits : IfSome desk.doubt NextFits
  pub next : MayStand desk.book desk.limit desk.doubt

-- A turn of a desk: it is one of its server, whose replies are written as JSON, and this is known besides of its keeper; as the turn ends, it
-- keeps the book, with what is in doubt then.
pub record DeskTakes {K : Type 0} (G : Ghosts K) (old : DeskState K) (ask : Ask) (outcome : Outcome) (new : DeskState K) : Type 0 where
  pub turn : TakesTurn pull_json (served G.faults old) ask outcome (served G.faults new)
  pub assured : Assures G.tells G.fails_no_more old.keeper (trouble_of outcome) new.keeper
  pub kept : KeepsBook G new.keeper new.book new.doubt

-- The same with the steps that were counted before it and after: at most as many were taken as the walks of what is asked have entries
-- at the book as it settled.
abbrev pub DeskTakesWithin : {K : Type 0} → Ghosts K → DeskState K → Ask → Outcome → DeskState K → ℕ → ℕ → Type 0
DeskTakesWithin G old ask outcome new before after = (taken : DeskTakes G old ask outcome new) × (after ≤ before + turn_steps ask taken.turn.settled)

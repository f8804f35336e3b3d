-- A server, as contracts see it, and its turns: each settles what is in doubt, and is then a step of the machine.
use Rattle.std.specs.Prelude.{◌≡◌, ℕ, ◌+◌, ◌<◌, ◌≤◌, ◌⊎◌, Option, Some, None, IsSome}
use Rattle.rv_base.specs.Causes.{Rose}
use Rattle.rv_book.specs.declared.entry.Entry.{Entry}
use Rattle.rv_book.specs.Book.{Book, size, with_entry}
use Rattle.rv_turns.specs.Asks.{Ask}
use Rattle.rv_turns.specs.Outcomes.{refusal_of, trouble_of, IsChanged}
use Rattle.rv_turns.specs.declared.pushing.Outcome.{Outcome}
use Rattle.rv_turns.specs.declared.refusal.Trouble.{Trouble}
use Rattle.rv_turns.specs.declared.refusal.Trouble.TheVariants.{Keeper, Changed}
use Rattle.rv_history.specs.Closing.{Closes, GoesOnFrom}
use Rattle.rv_history.specs.Lawful.{IsLawful, IsLawfulAfter}
use Rattle.rv_history.specs.Machine.{ReplyText, Step}

-- What a turn enters: an entry at the end of the book, or the book that closing leaves, in its place.
pub data Next : Type 0 where
  entry : Entry → Next
  closed : Book → Next

-- the book with it entered
abbrev pub with_next : Book → Next → Book
with_next book (Next.entry e) = with_entry book e
with_next book (Next.closed new) = new

-- it may come next in the book
abbrev pub MayFollow : Book → Next → Type 0
MayFollow book (Next.entry e) = IsLawfulAfter book e
MayFollow book (Next.closed new) = Closes book new

-- a closing enters a closed book, and whatever else is asked an entry
abbrev pub IsOf : Ask → Next → Type 0
IsOf Ask.closing (Next.closed new) = Unit {0}
IsOf Ask.closing (Next.entry e) = ⊥
IsOf ask (Next.entry e) = Unit {0}
IsOf ask (Next.closed new) = ⊥

-- what is in doubt: nothing, or what may have been kept and was not entered yet
abbrev pub Doubt : Type 0
Doubt = Option Next

-- the book with what is in doubt entered
abbrev pub with_doubt : Book → Doubt → Book
with_doubt book None = book
with_doubt book (Some next) = with_next book next

-- what is in doubt is no closing
abbrev pub IsNoClosing : Doubt → Type 0
IsNoClosing None = Unit {0}
IsNoClosing (Some (Next.entry e)) = Unit {0}
IsNoClosing (Some (Next.closed new)) = ⊥

-- The book; the most entries that it may have; what is in doubt; and how often what keeps the book has failed.
pub record Served : Type 0 where
  pub book : Book
  pub limit : ℕ
  pub doubt : Doubt
  pub faults : ℕ

-- The settled book: what is in doubt is dropped or entered.
abbrev pub Settles : Book → Doubt → Book → Type 0
Settles book doubt settled = (settled ≡ book) ⊎ (settled ≡ with_doubt book doubt)

-- book and doubt are as before
abbrev pub Stays : Served → Served → Type 0
Stays old new = (new.book ≡ old.book) × (new.doubt ≡ old.doubt)

-- What is in doubt could not be settled, for this trouble: the keeper failed; or it is at another generation than the book, and than the book
-- with what is in doubt. Its count of faults rose, and all stands as it stood.
abbrev pub IsFoundAt : Book → Trouble → Type 0
IsFoundAt book Keeper = Unit {0}
IsFoundAt book (Changed kept found) = (kept ≡ size book) × ¬ (found ≡ kept) × ¬ (found ≡ kept + 1)

pub record StaysInDoubt (old : Served) (trouble : Trouble) (new : Served) : Type 0 where
  pub rose : Rose old.faults new.faults
  pub doubt : IsSome old.doubt
  pub found : IsFoundAt old.book trouble
  pub stays : Stays old new

module _ (write : ReplyText) where
  -- The keeper failed as what a step from the settled book enters was to be kept: its count of faults rose, and that is in doubt.
  pub record LeavesDoubt (old : Served) (settled : Book) (ask : Ask) (next : Next) (new : Served) : Type 0 where
    pub outcome : Outcome
    pub done : refusal_of outcome ≡ None
    pub is : IsOf ask next
    pub step : Step write old.limit settled ask outcome (with_next settled next)
    pub rose : Rose old.faults new.faults
    pub book : new.book ≡ settled
    pub doubt : new.doubt ≡ Some next

  -- The turn, by the book as it settled, what it left in doubt, and the trouble that its outcome tells. Without a trouble the machine makes
  -- its step from the settled book, and nothing is in doubt and no fault came. With one, either what was in doubt still is; or what the step
  -- enters is, and the trouble is that the keeper failed.
  abbrev pub TurnOf : Served → Book → Ask → Outcome → Doubt → Option Trouble → Served → Type 0
  TurnOf old settled ask outcome None None new = Step write old.limit settled ask outcome new.book × (new.doubt ≡ None) × (new.faults ≡ old.faults)
  TurnOf old settled ask outcome None (Some trouble) new = (settled ≡ old.book) × StaysInDoubt old trouble new
  TurnOf old settled ask outcome (Some next) (Some Keeper) new = LeavesDoubt old settled ask next new
  TurnOf old settled ask outcome left trouble new = ⊥

  -- A turn of a server: what was in doubt is settled, and then a step is made. Its count of faults never falls, and its limit stays.
  pub record TakesTurn (old : Served) (ask : Ask) (outcome : Outcome) (new : Served) : Type 0 where
    -- the book once it was settled, or as it was, where it could not be
    pub settled : Book
    -- what this turn left in doubt
    pub left : Doubt
    pub settles : Settles old.book old.doubt settled
    pub turn : TurnOf old settled ask outcome left (trouble_of outcome) new
    pub later : old.faults ≤ new.faults
    pub limit : new.limit ≡ old.limit

-- What is known besides of a turn, by what keeps the book, before it and after. One that tells told before, and its answer is not that
-- what is kept was changed by another. One that fails no more goes on so, and its answer tells no trouble.
pub record IsAssured (Told Tells Steady Steadies : Type 0) (trouble : Option Trouble) : Type 0 where
  pub told : Tells → Told
  pub near : Tells → ¬ IsChanged trouble
  pub goes_on : Steady → Steadies
  pub sure : Steady → trouble ≡ None

-- what is in doubt may come next in the book, which is not full
abbrev pub MayStand : Book → ℕ → Doubt → Type 0
MayStand book limit None = Unit {0}
MayStand book limit (Some next) = MayFollow book next × (size book < limit)

-- the book is lawful and within its limit, and what is in doubt may come next
pub record IsSound (served : Served) : Type 0 where
  pub lawful : IsLawful served.book
  pub within : size served.book ≤ served.limit
  pub next : MayStand served.book served.limit served.doubt

-- the server is sound afterwards, its book goes on from what it was by entries and closings, the limit stays and the count of faults never falls
pub record KeepsLaw (old new : Served) : Type 0 where
  pub sound : IsSound new
  pub more : GoesOnFrom old.book new.book
  pub limit : new.limit ≡ old.limit
  pub later : old.faults ≤ new.faults

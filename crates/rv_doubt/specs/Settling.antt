-- What becomes of what is in doubt.
use Rattle.std.specs.Prelude.{◌≡◌, ◌≤◌, ℕ, Option, Some, None, Result, Ok, Err}
use Rattle.rv_base.specs.declared.outside.Failed.{Failed}
use Rattle.rv_book.specs.Book.{Book, size}
use Rattle.rv_turns.specs.declared.refusal.Trouble.{Trouble}
use Rattle.rv_turns.specs.declared.refusal.Trouble.TheVariants.{Changed}
use Rattle.rv_history.specs.Served.{Served, Settles, StaysInDoubt}

-- It is dropped or entered, nothing is in doubt any more, and no fault came; or it stays in doubt, for this trouble.
abbrev pub SettlesOrNot : Served → Result (Unit {0}) Trouble → Served → Type 0
SettlesOrNot old (Ok done) new = Settles old.book old.doubt new.book × (new.doubt ≡ None) × (new.faults ≡ old.faults)
SettlesOrNot old (Err trouble) new = StaysInDoubt old trouble new

-- the trouble that is told, if one is
abbrev pub settle_trouble : {T : Type 0} → Result T Trouble → Option Trouble
settle_trouble (Ok done) = None
settle_trouble (Err trouble) = Some trouble

-- with the count of faults, which never falls, and the limit, which stays
pub record HasSettled (old : Served) (result : Result (Unit {0}) Trouble) (new : Served) : Type 0 where
  pub settled : SettlesOrNot old result new
  pub later : old.faults ≤ new.faults
  pub limit : new.limit ≡ old.limit

-- Where the trouble is that what is kept was changed, what is told of it is what the keeper said: it was asked for its generation from the size of
-- the book, and answered the one that was found.
abbrev pub IsFound : {K : Type 0} → (K → ℕ → Result ℕ Failed → K → Type 0) → Book → K → Option Trouble → K → Type 0
IsFound asks book old (Some (Changed kept found)) new = (kept ≡ size book) × asks old kept (Ok found) new
IsFound asks book old trouble new = Unit {0}

-- What becomes of what is to be kept, an entry or the closed book.
use Rattle.std.specs.Prelude.{◌≡◌, ◌≤◌, Option, Some, None, Result, Ok, Err}
use Rattle.rv_base.specs.Causes.{Rose}
use Rattle.rv_base.specs.declared.fault.Fault.{Fault}
use Rattle.rv_base.specs.declared.fault.Fault.TheVariants.{Failed, Memory}
use Rattle.rv_turns.specs.declared.refusal.Trouble.{Trouble}
use Rattle.rv_turns.specs.declared.refusal.Trouble.TheVariants as troubles
use Rattle.rv_history.specs.Served.{Next, Served, with_next}

-- It is entered; or the keeper failed, its count of faults rose, and it is in doubt; or memory was refused, and all is as before.
abbrev pub KeepsOrNot : {T : Type 0} → Served → Next → Result T Fault → Served → Type 0
KeepsOrNot old next (Ok done) new = (new.book ≡ with_next old.book next) × (new.doubt ≡ None) × (new.faults ≡ old.faults)
KeepsOrNot old next (Err Failed) new = (new.book ≡ old.book) × (new.doubt ≡ Some next) × Rose old.faults new.faults
KeepsOrNot old next (Err Memory) new = (new.book ≡ old.book) × (new.doubt ≡ None) × (new.faults ≡ old.faults)

-- the trouble that is told of it, if one is
abbrev pub keep_trouble : {T : Type 0} → Result T Fault → Option Trouble
keep_trouble (Ok done) = None
keep_trouble (Err Failed) = Some troubles.Keeper
keep_trouble (Err Memory) = None

-- with the count of faults, which never falls, and the limit, which stays
pub record IsKept {T : Type 0} (old : Served) (next : Next) (result : Result T Fault) (new : Served) : Type 0 where
  pub kept : KeepsOrNot old next result new
  pub later : old.faults ≤ new.faults
  pub limit : new.limit ≡ old.limit

-- What becomes of what is asked where nothing is in doubt.
use Rattle.std.specs.Prelude.{◌≡◌, ◌≤◌, None, Result, Ok, Err}
use Rattle.rv_base.specs.declared.fault.Fault.{Fault}
use Rattle.rv_base.specs.declared.fault.Fault.TheVariants.{Failed, Memory}
use Rattle.rv_turns.specs.Asks.{Ask}
use Rattle.rv_turns.specs.Outcomes.{trouble_of}
use Rattle.rv_turns.specs.declared.pushing.Outcome.{Outcome}
use Rattle.rv_turns.specs.declared.refusal.Refusal.TheVariants as refusals
use Rattle.rv_wire.specs.Answers.{pull_json}
use Rattle.rv_history.specs.Machine.{Refuses, Step}
use Rattle.rv_history.specs.Served.{Next, Served, LeavesDoubt}

-- It is a step of the machine; or the keeper failed, and what the step enters is in doubt; or memory was refused where the machine may
-- refuse it.
abbrev pub StepsOrNot : Served → Ask → Result Outcome Fault → Served → Type 0
StepsOrNot old ask (Ok outcome) new = Step pull_json old.limit old.book ask outcome new.book × (trouble_of outcome ≡ None) × (new.doubt ≡ None) × (new.faults ≡ old.faults)
StepsOrNot old ask (Err Failed) new = (next : Next) × LeavesDoubt pull_json old old.book ask next new
StepsOrNot old ask (Err Memory) new = Refuses old.limit old.book ask refusals.Memory × (new.book ≡ old.book) × (new.doubt ≡ None) × (new.faults ≡ old.faults)

-- with the count of faults, which never falls, and the limit, which stays
pub record HasStepped (old : Served) (ask : Ask) (result : Result Outcome Fault) (new : Served) : Type 0 where
  pub stepped : StepsOrNot old ask result new
  pub later : old.faults ≤ new.faults
  pub limit : new.limit ≡ old.limit

-- A request that was read of a line is what the line asks, and is answered so.
use Rattle.std.proofs.Common.{◌≡◌, Bool, Result, Ok, Err, subst, inl, inr}
use Rattle.rv_turns.specs.Asks.{Ask}
use Rattle.rv_turns.specs.declared.pushing.Outcome.{Outcome}
use Rattle.rv_wire.specs.declared.fault.WireFault.{WireFault}
use Rattle.rv_wire.specs.declared.fault.WireFault.TheVariants as faults
use Rattle.rv_answering.specs.declared.request.Request.{Request}
use Rattle.rv_answering.specs.declared.request.Request.TheVariants.{Push, Pull, Retire, Close}
use Rattle.rv_answering.specs.declared.answer.Answer.{Answer}
use Rattle.rv_answering.specs.Requests.{Parsed}
use Rattle.rv_answering.specs.Reads.{IsReading}
use Rattle.rv_answering.specs.Steps.{Answers, Handles, HandlesActing}

module _ {S : Type 0} (takes : S → Ask → Outcome → S → Type 0) where
  answers_handled : (old new : S) (request : Request) (answer : Answer) (acted : Bool) → Answers takes old request answer acted new → HandlesActing takes old (Ok request) answer acted new
  answers_handled old new (Push user push) answer acted told = inr told
  answers_handled old new (Pull user pull) answer acted told = inr told
  answers_handled old new (Retire group) answer acted told = told
  answers_handled old new Close answer acted told = told

  pub reading_handled : (old new : S) (parsed : Parsed) (request : Request) (answer : Answer) (acted : Bool) → IsReading parsed (Ok request) → Answers takes old request answer acted new → Handles takes old parsed answer new
  reading_handled old new parsed request answer acted (inl same) told =
      subst (λ (p : Parsed). Handles takes old p answer new) same (acted, answers_handled old new request answer acted told)
  reading_handled old new parsed request answer acted (inr (none, body)) told = let no : ◌≡◌ {A = Result Request WireFault} (Ok request) (Err faults.Memory) = none in absurd (cc)

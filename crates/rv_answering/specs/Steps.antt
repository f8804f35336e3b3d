-- What each request is answered, and which state is left. The state, and the turns on it, are anyone's who takes turns.
use Rattle.std.specs.Prelude.{◌≡◌, ◌⊎◌, Bool, false, List, [], ◌∷◌, Option, Some, None, Ok, Err}
use Rattle.rv_turns.specs.Asks.{Ask}
use Rattle.rv_turns.specs.Pushing.{Pushes}
use Rattle.rv_turns.specs.declared.pushing.Outcome.{Outcome}
use Rattle.rv_turns.specs.declared.pushing.Outcome.TheVariants as outcomes
use Rattle.rv_turns.specs.declared.refusal.Refusal.{Refusal}
use Rattle.rv_turns.specs.declared.refusal.Refusal.TheVariants as refusals
use Rattle.rv_wire.specs.declared.error_body.ErrorBody.{ErrorBody}
use Rattle.rv_wire.specs.declared.error_body.ErrorBody.TheVariants as errors
use Rattle.rv_wire.specs.Errors.{fault_error}
use Rattle.rv_answering.specs.declared.request.Request.{Request}
use Rattle.rv_answering.specs.declared.request.Request.TheVariants.{Push, Pull, Retire, Close}
use Rattle.rv_answering.specs.declared.answer.Answer.{Answer}
use Rattle.rv_answering.specs.declared.answer.Answer.TheVariants.{Pushed, Pulled, Retired, Closed, Refused}
use Rattle.rv_answering.specs.Requests.{Parsed}

-- what an outcome is answered as
abbrev pub answer_of : Outcome → Answer
answer_of (outcomes.Acted place) = Pushed
answer_of (outcomes.Skipped number) = Pushed
answer_of (outcomes.Pulled reply) = Pulled reply
answer_of (outcomes.Retired place) = Retired place
answer_of (outcomes.Closed place) = Closed place
answer_of (outcomes.Refused refusal) = Refused (errors.Refused refusal)

-- the answer to a push that was refused so, or not at all
abbrev pub push_answer : Option Refusal → Answer
push_answer None = Pushed
push_answer (Some refusal) = Refused (errors.Refused refusal)

-- the answer is this refusal, no mutation was run for it, and nothing has changed
abbrev pub RefusesWith : {S : Type 0} → ErrorBody → S → Answer → Bool → S → Type 0
RefusesWith refusal old answer acted new = (answer ≡ Refused refusal) × (acted ≡ false) × (new ≡ old)

-- the refusal where memory is wanted
abbrev pub no_memory : ErrorBody
no_memory = errors.Refused refusals.Memory

module _ {S : Type 0} (takes : S → Ask → Outcome → S → Type 0) where
  -- A push takes its mutations as turns, and acted where one of them was run; a pull is one turn, and so are a retirement and the closing
  -- of the book, and no mutation is run for them.
  abbrev pub Answers : S → Request → Answer → Bool → S → Type 0
  Answers old (Push user push) answer acted new = (refused : Option Refusal) × Pushes takes (record { user = user; group = push.group }) push.mutations old refused acted new × (answer ≡ push_answer refused)
  Answers old (Pull user pull) answer acted new = (outcome : Outcome) × takes old (Ask.pull user pull) outcome new × (answer ≡ answer_of outcome) × (acted ≡ false)
  Answers old (Retire group) answer acted new = (outcome : Outcome) × takes old (Ask.retirement group) outcome new × (answer ≡ answer_of outcome) × (acted ≡ false)
  Answers old Close answer acted new = (outcome : Outcome) × takes old Ask.closing outcome new × (answer ≡ answer_of outcome) × (acted ≡ false)

  -- A request is answered by its turns, and acted tells whether a mutation was run for it. A body that is not of the form is
  -- answered by the first thing that is wrong with it, and nothing changes. So is any body where memory is refused in reading it.
  abbrev pub HandlesActing : S → Parsed → Answer → Bool → S → Type 0
  HandlesActing old (Ok (Push user push)) answer acted new = RefusesWith no_memory old answer acted new ⊎ Answers old (Push user push) answer acted new
  HandlesActing old (Ok (Pull user pull)) answer acted new = RefusesWith no_memory old answer acted new ⊎ Answers old (Pull user pull) answer acted new
  HandlesActing old (Ok (Retire group)) answer acted new = Answers old (Retire group) answer acted new
  HandlesActing old (Ok Close) answer acted new = Answers old Close answer acted new
  HandlesActing old (Err fault) answer acted new = RefusesWith no_memory old answer acted new ⊎ RefusesWith (fault_error fault) old answer acted new

  -- what was parsed is answered so, whether or not a mutation was run for it
  abbrev pub Handles : S → Parsed → Answer → S → Type 0
  Handles old parsed answer new = (acted : Bool) × HandlesActing old parsed answer acted new

  -- what was parsed is answered so, one after another
  abbrev pub HandlesAll : S → List Parsed → List Answer → S → Type 0
  HandlesAll old [] [] new = new ≡ old
  HandlesAll old (parsed ∷ more) (answer ∷ answers) new = (mid : S) × Handles old parsed answer mid × HandlesAll mid more answers new
  HandlesAll old [] (answer ∷ answers) new = ⊥
  HandlesAll old (parsed ∷ more) [] new = ⊥

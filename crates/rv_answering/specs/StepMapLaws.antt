-- Where each turn of one kind is one of another, so are pushes, answers and what is handled.
use Rattle.std.proofs.Common.{◌≡◌, Bool, false, List, [], ◌∷◌, Option, Some, None, Ok, Err, inl, inr}
use Rattle.std.specs.Option.{MatchOption}
use Rattle.rv_turns.specs.Asks.{Sender, Ask}
use Rattle.rv_turns.specs.Outcomes.{refusal_of}
use Rattle.rv_turns.specs.Pushing.{Pushes}
use Rattle.rv_turns.specs.declared.mutation.Mutation.{Mutation}
use Rattle.rv_turns.specs.declared.pushing.Outcome.{Outcome}
use Rattle.rv_turns.specs.declared.refusal.Refusal.{Refusal}
use Rattle.rv_answering.specs.declared.request.Request.{Request}
use Rattle.rv_answering.specs.declared.request.Request.TheVariants.{Push, Pull, Retire, Close}
use Rattle.rv_answering.specs.declared.answer.Answer.{Answer}
use Rattle.rv_answering.specs.Requests.{Parsed}
use Rattle.rv_answering.specs.Steps.{Answers, Handles}

module _ {S : Type 0} (takes taking : S → Ask → Outcome → S → Type 0) (taken : (old new : S) (ask : Ask) (outcome : Outcome) → takes old ask outcome new → taking old ask outcome new) where
  map_rest : (from : Sender) (ms : List Mutation) (mid new : S) (answer told : Option Refusal) (later : Bool) → (Pushes takes from ms mid answer later new → Pushes taking from ms mid answer later new)
      → MatchOption told (Pushes takes from ms mid answer later new) (λ why. (answer ≡ Some why) × (later ≡ false) × (new ≡ mid))
      → MatchOption told (Pushes taking from ms mid answer later new) (λ why. (answer ≡ Some why) × (later ≡ false) × (new ≡ mid))
  map_rest from ms mid new answer None later goes rest = goes rest
  map_rest from ms mid new answer (Some why) later goes rest = rest

  map_pushes : (from : Sender) (ms : List Mutation) (old new : S) (answer : Option Refusal) (acted : Bool) → Pushes takes from ms old answer acted new → Pushes taking from ms old answer acted new
  map_pushes from [] old new answer acted is = is
  map_pushes from (m ∷ ms) old new answer acted (outcome, mid, later, takes, acts, rest) =
      (outcome, mid, later, taken old mid (Ask.mutation from m) outcome takes, acts, map_rest from ms mid new answer (refusal_of outcome) later (map_pushes from ms mid new answer later) rest)

  map_answers : (old new : S) (request : Request) (answer : Answer) (acted : Bool) → Answers takes old request answer acted new → Answers taking old request answer acted new
  map_answers old new (Push user push) answer acted (refused, pushed, is) = (refused, map_pushes (record { user = user; group = push.group }) push.mutations old new refused acted pushed, is)
  map_answers old new (Pull user pull) answer acted (outcome, takes, is, none) = (outcome, taken old new (Ask.pull user pull) outcome takes, is, none)
  map_answers old new (Retire group) answer acted (outcome, takes, is, none) = (outcome, taken old new (Ask.retirement group) outcome takes, is, none)
  map_answers old new Close answer acted (outcome, takes, is, none) = (outcome, taken old new Ask.closing outcome takes, is, none)

  pub map_handled : (old new : S) (parsed : Parsed) (answer : Answer) → Handles takes old parsed answer new → Handles taking old parsed answer new
  map_handled old new (Ok (Push user push)) answer (acted, inl wants) = (acted, inl wants)
  map_handled old new (Ok (Push user push)) answer (acted, inr told) = (acted, inr (map_answers old new (Push user push) answer acted told))
  map_handled old new (Ok (Pull user pull)) answer (acted, inl wants) = (acted, inl wants)
  map_handled old new (Ok (Pull user pull)) answer (acted, inr told) = (acted, inr (map_answers old new (Pull user pull) answer acted told))
  map_handled old new (Ok (Retire group)) answer (acted, told) = (acted, map_answers old new (Retire group) answer acted told)
  map_handled old new (Ok Close) answer (acted, told) = (acted, map_answers old new Close answer acted told)
  map_handled old new (Err fault) answer (acted, told) = (acted, told)

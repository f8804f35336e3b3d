-- Turns that are those of what a state shows, and by which a state goes on to the next: then so do pushes, answers and what is handled.
use Rattle.std.proofs.Common.{◌≡◌, Bool, false, List, [], ◌∷◌, Option, Some, None, Ok, Err, ap, sym, subst, inl, inr}
use Rattle.std.specs.Option.{MatchOption}
use Rattle.rv_turns.specs.Asks.{Sender, Ask}
use Rattle.rv_turns.specs.Outcomes.{refusal_of}
use Rattle.rv_turns.specs.Pushing.{Pushes}
use Rattle.rv_turns.specs.declared.mutation.Mutation.{Mutation}
use Rattle.rv_turns.specs.declared.pushing.Outcome.{Outcome}
use Rattle.rv_turns.specs.declared.refusal.Refusal.{Refusal}
use Rattle.rv_wire.specs.declared.error_body.ErrorBody.{ErrorBody}
use Rattle.rv_wire.specs.Errors.{fault_error}
use Rattle.rv_answering.specs.declared.request.Request.{Request}
use Rattle.rv_answering.specs.declared.request.Request.TheVariants.{Push, Pull, Retire, Close}
use Rattle.rv_answering.specs.declared.answer.Answer.{Answer}
use Rattle.rv_answering.specs.Requests.{Parsed}
use Rattle.rv_answering.specs.Steps.{Answers, RefusesWith, Handles, HandlesActing, no_memory}

module _ {S V : Type 0} (shown : S → V) (Goes : S → S → Type 0) (goes_same : (s : S) → Goes s s) (goes_on : (s t u : S) → Goes s t → Goes t u → Goes s u) (takes : V → Ask → Outcome → V → Type 0) where
  abbrev pub shown_takes : S → Ask → Outcome → S → Type 0
  shown_takes old ask outcome new = takes (shown old) ask outcome (shown new) × Goes old new

  same_goes : (old new : S) → new ≡ old → Goes old new
  same_goes old new same = subst (λ (s : S). Goes old s) (sym same) (goes_same old)

  push_rest : (from : Sender) (ms : List Mutation) (old mid new : S) (answer refused : Option Refusal) (later : Bool) → Goes old mid
      → (Pushes shown_takes from ms mid answer later new → Pushes takes from ms (shown mid) answer later (shown new) × Goes mid new)
      → MatchOption refused (Pushes shown_takes from ms mid answer later new) (λ why. (answer ≡ Some why) × (later ≡ false) × (new ≡ mid))
      → MatchOption refused (Pushes takes from ms (shown mid) answer later (shown new)) (λ why. (answer ≡ Some why) × (later ≡ false) × (shown new ≡ shown mid)) × Goes old new
  push_rest from ms old mid new answer None later goes more rest = let on = more rest in (on.0, goes_on old mid new goes on.1)
  push_rest from ms old mid new answer (Some why) later goes more (is, none, same) = ((is, none, ap shown same), goes_on old mid new goes (same_goes mid new same))

  pub pushes_shown : (from : Sender) (ms : List Mutation) (old new : S) (answer : Option Refusal) (acted : Bool) → Pushes shown_takes from ms old answer acted new → Pushes takes from ms (shown old) answer acted (shown new) × Goes old new
  pushes_shown from [] old new answer acted (is, none, same) = ((is, none, ap shown same), same_goes old new same)
  pushes_shown from (m ∷ ms) old new answer acted (outcome, mid, later, (step, goes), acts, rest) =
      let on = push_rest from ms old mid new answer (refusal_of outcome) later goes (pushes_shown from ms mid new answer later) rest in
      ((outcome, shown mid, later, step, acts, on.0), on.1)

  pub answers_shown : (old new : S) (request : Request) (answer : Answer) (acted : Bool) → Answers shown_takes old request answer acted new → Answers takes (shown old) request answer acted (shown new) × Goes old new
  answers_shown old new (Push user push) answer acted (refused, pushed, is) =
      let on = pushes_shown (record { user = user; group = push.group }) push.mutations old new refused acted pushed in
      ((refused, on.0, is), on.1)
  answers_shown old new (Pull user pull) answer acted (outcome, (taken, goes), is, none) = ((outcome, taken, is, none), goes)
  answers_shown old new (Retire group) answer acted (outcome, (taken, goes), is, none) = ((outcome, taken, is, none), goes)
  answers_shown old new Close answer acted (outcome, (taken, goes), is, none) = ((outcome, taken, is, none), goes)

  refuses_shown : (refusal : ErrorBody) (old new : S) (answer : Answer) (acted : Bool) → RefusesWith refusal old answer acted new → RefusesWith refusal (shown old) answer acted (shown new) × Goes old new
  refuses_shown refusal old new answer acted (is, none, same) = ((is, none, ap shown same), same_goes old new same)

  pub acting_shown : (old new : S) (parsed : Parsed) (answer : Answer) (acted : Bool) → HandlesActing shown_takes old parsed answer acted new → HandlesActing takes (shown old) parsed answer acted (shown new) × Goes old new
  acting_shown old new (Ok (Push user push)) answer acted (inl wants) = let on = refuses_shown no_memory old new answer acted wants in (inl on.0, on.1)
  acting_shown old new (Ok (Push user push)) answer acted (inr told) = let on = answers_shown old new (Push user push) answer acted told in (inr on.0, on.1)
  acting_shown old new (Ok (Pull user pull)) answer acted (inl wants) = let on = refuses_shown no_memory old new answer acted wants in (inl on.0, on.1)
  acting_shown old new (Ok (Pull user pull)) answer acted (inr told) = let on = answers_shown old new (Pull user pull) answer acted told in (inr on.0, on.1)
  acting_shown old new (Ok (Retire group)) answer acted told = answers_shown old new (Retire group) answer acted told
  acting_shown old new (Ok Close) answer acted told = answers_shown old new Close answer acted told
  acting_shown old new (Err fault) answer acted (inl wants) = let on = refuses_shown no_memory old new answer acted wants in (inl on.0, on.1)
  acting_shown old new (Err fault) answer acted (inr told) = let on = refuses_shown (fault_error fault) old new answer acted told in (inr on.0, on.1)

  pub handled_shown : (old new : S) (parsed : Parsed) (answer : Answer) → Handles shown_takes old parsed answer new → Handles takes (shown old) parsed answer (shown new) × Goes old new
  handled_shown old new parsed answer (acted, handled) = let on = acting_shown old new parsed answer acted handled in ((acted, on.0), on.1)

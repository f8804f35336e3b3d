-- A trouble with what keeps the book is told only where its count of faults rose.
use Rattle.std.proofs.Common.{◌≡◌, ℕ, ◌≤◌, List, [], ◌∷◌, Bool, false, Option, Some, None, Ok, Err, refl, sym, ap, subst, arith, inl, inr}
use Rattle.std.specs.List.{AllByRecursion}
use Rattle.std.specs.Option.{MatchOption}
use Rattle.rv_base.specs.Causes.{Rose}
use Rattle.rv_base.specs.CauseLaws.{rose_before}
use Rattle.rv_wire.specs.declared.fault.WireFault.{WireFault}
use Rattle.rv_wire.specs.Errors.{fault_error}
use Rattle.rv_book.specs.Book.{Book}
use Rattle.rv_turns.specs.declared.refusal.Trouble.TheVariants.{Keeper, Changed}
use Rattle.rv_history.specs.Served.{Doubt, Served, TurnOf, TakesTurn}
use Rattle.rv_answering.specs.declared.answer.Answer.{Answer}
use Rattle.rv_answering.specs.declared.answer.Answer.TheVariants.{Refused}
use Rattle.rv_answering.specs.declared.request.Request.{Request}
use Rattle.rv_answering.specs.declared.request.Request.TheVariants.{Push, Pull, Retire, Close}
use Rattle.rv_answering.specs.declared.line.Line.{Line}
use Rattle.rv_answering.specs.declared.line.Line.TheVariants.{Asks, Stop}
use Rattle.rv_answering.specs.Requests.{Parsed}
use Rattle.rv_answering.specs.Steps.{RefusesWith, answer_of, no_memory, push_answer}
use Rattle.rv_serve.specs.Properties.{RunsTurns}
use Rattle.rv_cli.specs.Headline.{Handles, TakesLine, Run, AnswersWith, AnswersTrouble}
use Rattle.rv_turns.specs.Asks.{Sender, Ask}
use Rattle.rv_turns.specs.Pushing.{Pushes}
use Rattle.rv_wire.specs.Answers.{pull_json}
use Rattle.rv_turns.specs.declared.pushing.Outcome.{Outcome}
use Rattle.rv_turns.specs.declared.refusal.Trouble.{Trouble}
use Rattle.rv_turns.specs.declared.mutation.Mutation.{Mutation}
use Rattle.rv_turns.specs.Outcomes.{refusal_of, trouble_in, trouble_of}
use Rattle.rv_turns.specs.declared.pushing.Outcome.TheVariants as outcomes
use Rattle.rv_turns.specs.declared.refusal.Refusal.{Refusal}
use Rattle.rv_turns.specs.declared.refusal.Refusal.TheVariants as refusals
use Rattle.rv_wire.specs.declared.error_body.ErrorBody.TheVariants as errors
use Rattle.rv_wire.specs.declared.fault.WireFault.TheVariants as faulting
use Rattle.rv_answering.specs.Steps as steps

-- ---- An answer that tells a trouble of which something holds comes of a turn that does.

abbrev pub HasTrouble : (Trouble → Type 0) → Option Trouble → Type 0
HasTrouble Holds found = (trouble : Trouble) × (found ≡ Some trouble) × Holds trouble

-- what a push is told as that ended so far
abbrev refused : Option Refusal → Option Answer
refused None = None
refused (Some why) = Some (Refused (errors.Refused why))

module _ (Holds : Trouble → Type 0) where
  refusal_causes : (refusal : Refusal) → AnswersWith Holds (Some (Refused (errors.Refused refusal))) → HasTrouble Holds (trouble_in refusal)
  refusal_causes (refusals.Trouble trouble) told = (trouble, refl, told)
  refusal_causes (refusals.Future expected got) none = absurd none
  refusal_causes refusals.GroupOfOther none = absurd none
  refusal_causes refusals.ClientOfOther none = absurd none
  refusal_causes refusals.NotFound none = absurd none
  refusal_causes refusals.NoGroup none = absurd none
  refusal_causes (refusals.Behind length) none = absurd none
  refusal_causes (refusals.Limit what at) none = absurd none
  refusal_causes refusals.Memory none = absurd none

  turn_causes : (outcome : Outcome) → AnswersWith Holds (refused (refusal_of outcome)) → HasTrouble Holds (trouble_of outcome)
  turn_causes (outcomes.Refused refusal) told = refusal_causes refusal told
  turn_causes (outcomes.Acted place) none = absurd none
  turn_causes (outcomes.Skipped number) none = absurd none
  turn_causes (outcomes.Pulled reply) none = absurd none
  turn_causes (outcomes.Retired place) none = absurd none
  turn_causes (outcomes.Closed place) none = absurd none

  pub outcome_causes : (outcome : Outcome) → AnswersWith Holds (Some (answer_of outcome)) → HasTrouble Holds (trouble_of outcome)
  outcome_causes (outcomes.Refused refusal) told = refusal_causes refusal told
  outcome_causes (outcomes.Acted place) none = absurd none
  outcome_causes (outcomes.Skipped number) none = absurd none
  outcome_causes (outcomes.Pulled reply) none = absurd none
  outcome_causes (outcomes.Retired place) none = absurd none
  outcome_causes (outcomes.Closed place) none = absurd none

  push_causes : (answer : Option Refusal) → AnswersWith Holds (Some (push_answer answer)) → AnswersWith Holds (refused answer)
  push_causes None none = absurd none
  push_causes (Some why) told = told

  -- what is wrong with a body is no trouble
  wrong_causes : (fault : WireFault) → AnswersWith Holds (Some (Refused (fault_error fault))) → ⊥
  wrong_causes faulting.NotJson told = told
  wrong_causes (faulting.Field field) told = told
  wrong_causes (faulting.Version kind) told = told
  wrong_causes faulting.Memory told = told

-- ---- Of anyone who takes turns, where each turn goes from a state to a later one, and one that tells such a trouble rises.

module _ {S : Type 0} (Holds : Trouble → Type 0) (takes : S → Ask → Outcome → S → Type 0) (Later Rises : S → S → Type 0)
    (later_same : (s : S) → Later s s) (later_on : (s t u : S) → Later s t → Later t u → Later s u) (rises_after : (s t u : S) → Later s t → Rises t u → Rises s u)
    (taken : (ask : Ask) (old new : S) (outcome : Outcome) → takes old ask outcome new → Later old new × (HasTrouble Holds (trouble_of outcome) → Rises old new)) where
  abbrev pub Causes : S → S → Option Answer → Type 0
  Causes old new answer = Later old new × (AnswersWith Holds answer → Rises old new)

  same_later : (old new : S) → new ≡ old → Later old new
  same_later old new same = subst (λ (s : S). Later old s) (sym same) (later_same old)

  push_rest : (from : Sender) (ms : List Mutation) (old mid new : S) (answer told : Option Refusal) (acted : Bool) → Causes old mid (refused told) → (Pushes takes from ms mid answer acted new → Causes mid new (refused answer))
      → MatchOption told (Pushes takes from ms mid answer acted new) (λ why. (answer ≡ Some why) × (acted ≡ false) × (new ≡ mid)) → Causes old new (refused answer)
  push_rest from ms old mid new answer None acted (later, rises) goes rest = let (more, risen) = goes rest in (later_on old mid new later more, λ told. rises_after old mid new later (risen told))
  push_rest from ms old mid new answer (Some why) acted (later, rises) goes (is, none, same) =
      subst (λ (s : S). Causes old s (refused answer)) (sym same) (later, λ told. rises (subst (λ (a : Option Refusal). AnswersWith Holds (refused a)) is told))

  pushes_cause : (from : Sender) (ms : List Mutation) (old new : S) (answer : Option Refusal) (acted : Bool) → Pushes takes from ms old answer acted new → Causes old new (refused answer)
  pushes_cause from [] old new answer acted (is, none, same) = (same_later old new same, λ told. absurd (subst (λ (a : Option Refusal). AnswersWith Holds (refused a)) is told))
  pushes_cause from (m ∷ ms) old new answer acted (outcome, mid, others, turn, acts, rest) =
      let (later, rises) = taken (Ask.mutation from m) old mid outcome turn in
      push_rest from ms old mid new answer (refusal_of outcome) others (later, λ told. rises (turn_causes Holds outcome told)) (pushes_cause from ms mid new answer others) rest

  same_causes : (old new : S) (answer told : Answer) → answer ≡ told → Causes old new (Some told) → Causes old new (Some answer)
  same_causes old new answer told is causes = subst (λ (a : Answer). Causes old new (Some a)) (sym is) causes

  answers_cause : (old new : S) (request : Request) (answer : Answer) (acted : Bool) → steps.Answers takes old request answer acted new → Causes old new (Some answer)
  answers_cause old new (Push user push) answer acted (refused', pushed, is) =
      let (later, rises) = pushes_cause (record { user = user; group = push.group }) push.mutations old new refused' acted pushed in
      same_causes old new answer (push_answer refused') is (later, λ told. rises (push_causes Holds refused' told))
  answers_cause old new (Pull user pull) answer acted (outcome, turn, is, none) =
      let (later, rises) = taken (Ask.pull user pull) old new outcome turn in same_causes old new answer (answer_of outcome) is (later, λ told. rises (outcome_causes Holds outcome told))
  answers_cause old new (Retire group) answer acted (outcome, turn, is, none) =
      let (later, rises) = taken (Ask.retirement group) old new outcome turn in same_causes old new answer (answer_of outcome) is (later, λ told. rises (outcome_causes Holds outcome told))
  answers_cause old new Close answer acted (outcome, turn, is, none) =
      let (later, rises) = taken Ask.closing old new outcome turn in same_causes old new answer (answer_of outcome) is (later, λ told. rises (outcome_causes Holds outcome told))

  -- want of memory is no trouble
  wants_cause : (old new : S) (answer : Answer) (acted : Bool) → RefusesWith no_memory old answer acted new → Causes old new (Some answer)
  wants_cause old new answer acted (is, none, same) = same_causes old new answer (Refused no_memory) is (same_later old new same, λ none. absurd none)

  pub any_step_causes : (old new : S) (asked : Parsed) (answer : Answer) → steps.Handles takes old asked answer new → Causes old new (Some answer)
  any_step_causes old new (Ok (Push user push)) answer (acted, inl wants) = wants_cause old new answer acted wants
  any_step_causes old new (Ok (Push user push)) answer (acted, inr told) = answers_cause old new (Push user push) answer acted told
  any_step_causes old new (Ok (Pull user pull)) answer (acted, inl wants) = wants_cause old new answer acted wants
  any_step_causes old new (Ok (Pull user pull)) answer (acted, inr told) = answers_cause old new (Pull user pull) answer acted told
  any_step_causes old new (Ok (Retire group)) answer (acted, told) = answers_cause old new (Retire group) answer acted told
  any_step_causes old new (Ok Close) answer (acted, told) = answers_cause old new Close answer acted told
  any_step_causes old new (Err fault) answer (acted, inl wants) = wants_cause old new answer acted wants
  any_step_causes old new (Err fault) answer (acted, inr (is, none, same)) = same_causes old new answer (Refused (fault_error fault)) is (same_later old new same, λ told. absurd (wrong_causes Holds fault told))

  pub turns_later : (old new : S) (turns : List (Parsed × Answer)) → RunsTurns takes old turns new → Later old new
  turns_later old new [] same = same_later old new same
  turns_later old new (turn ∷ turns) (mid, step, rest) = later_on old mid new (any_step_causes old mid turn.0 turn.1 step).0 (turns_later mid new turns rest)

  -- what holds of each step from whose state a run goes on to its last holds of each turn of the run
  pub turns_each : (Holds : Parsed × Answer → Type 0) (last : S)
      → ((old new : S) (turn : Parsed × Answer) → steps.Handles takes old turn.0 turn.1 new → Later new last → Holds turn)
      → (old : S) (turns : List (Parsed × Answer)) → RunsTurns takes old turns last → AllByRecursion Holds turns
  turns_each Holds last each old [] same = tt
  turns_each Holds last each old (turn ∷ turns) (mid, step, rest) = (each old mid turn step (turns_later mid last turns rest), turns_each Holds last each mid turns rest)

-- ---- Of the server.

-- a turn that tells a trouble is one in which the count rose
turn_rises : (old new : Served) (ask : Ask) (outcome : Outcome) (settled : Book) (left : Doubt) (trouble : Option Trouble) → TurnOf pull_json old settled ask outcome left trouble new → HasTrouble (λ trouble. Unit {0}) trouble → Rose old.faults new.faults
turn_rises old new ask outcome settled None None turn (tr, is, any) = absurd (cc)
turn_rises old new ask outcome settled None (Some trouble) (same, stays) has = stays.rose
turn_rises old new ask outcome settled (Some next) (Some Keeper) left has = left.rose
turn_rises old new ask outcome settled (Some next) (Some (Changed kept found)) never has = absurd never
turn_rises old new ask outcome settled (Some next) None never has = absurd never

pub taken_rises : (ask : Ask) (old new : Served) (outcome : Outcome) → TakesTurn pull_json old ask outcome new → (old.faults ≤ new.faults) × (HasTrouble (λ trouble. Unit {0}) (trouble_of outcome) → Rose old.faults new.faults)
taken_rises ask old new outcome taken = (taken.later, λ has. turn_rises old new ask outcome taken.settled taken.left (trouble_of outcome) taken.turn has)

pub step_causes : (old new : Served) (asked : Parsed) (answer : Answer) → Handles old asked answer new → (old.faults ≤ new.faults) × (AnswersTrouble (Some answer) → Rose old.faults new.faults)
step_causes = any_step_causes (λ trouble. Unit {0}) (TakesTurn pull_json) (λ old new. old.faults ≤ new.faults) (λ old new. Rose old.faults new.faults)
    (λ s. omega arith) (λ s t u le more. omega (arith, le, more)) (λ s t u le rose. rose_before s.faults t.faults u.faults le rose) taken_rises

pub takes_cause : (Told : Type 0) (old new : Served) (line : Line) (answer : Option Answer) → TakesLine Told old line answer new → (old.faults ≤ new.faults) × (AnswersTrouble answer → Rose old.faults new.faults)
takes_cause Told old new (Asks asked) (Some answer) taken = step_causes old new asked answer taken.step
takes_cause Told old new Stop None reopens = let n = reopens.faults in (omega (arith, n), λ none. absurd none)
takes_cause Told old new (Asks asked) None never = absurd never
takes_cause Told old new Stop (Some answer) never = absurd never

run_later : (Told : Type 0) (first now : Served) (lines : List Line) (answers : List (Option Answer)) → Run Told first lines answers now → first.faults ≤ now.faults
run_later Told first now [] [] same = let n : now.faults ≡ first.faults = ap (λ (s : Served). s.faults) same in omega (arith, n)
run_later Told first now [] (answer ∷ answers) never = absurd never
run_later Told first now (line ∷ lines) [] never = absurd never
run_later Told first now (line ∷ lines) (answer ∷ answers) (mid, taken, rest) =
    let le = (takes_cause Told first mid line answer taken).0 in
    let more = run_later Told mid now lines answers rest in
    omega (arith, le, more)

no_rise : (old mid now : ℕ) → mid ≤ now → now ≡ 0 → Rose old mid → ⊥
no_rise old mid now le none rose = omega (arith, le, none, rose)

pub run_quiet : (Told : Type 0) (first now : Served) (lines : List Line) (answers : List (Option Answer)) → Run Told first lines answers now → now.faults ≡ 0 → AllByRecursion (λ answer. AnswersTrouble answer → ⊥) answers
run_quiet Told first now [] [] same none = tt
run_quiet Told first now [] (answer ∷ answers) never none = absurd never
run_quiet Told first now (line ∷ lines) [] never none = absurd never
run_quiet Told first now (line ∷ lines) (answer ∷ answers) (mid, taken, rest) none =
    (λ told. no_rise first.faults mid.faults now.faults (run_later Told mid now lines answers rest) none ((takes_cause Told first mid line answer taken).1 told), run_quiet Told mid now lines answers rest none)

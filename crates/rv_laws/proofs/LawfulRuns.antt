-- Runs keep the law, each pull is shown, and each trouble has its cause.
use Rattle.std.proofs.Common.{◌≡◌, ℕ, List, [], ◌∷◌, ◌++◌, ◌≤◌, ◌-◌, ◌^◌, length, Option, Some, None, Ok, Err, refl, sym, ◌∙◌, subst, inl, inr, arith}
use Rattle.rv_book.specs.Book.{Book, Extends}
use Rattle.rv_book.specs.BookWordLaws.{extends_same}
use Rattle.rv_history.specs.Machine.{Step}
use Rattle.rv_history.specs.Closing.{Closes, GoesOnFrom}
use Rattle.rv_history.specs.Served.{Doubt, IsSound, KeepsLaw, MayStand, Next, Served, Settles, TakesTurn, with_doubt}
use Rattle.rv_history.specs.TurnLaws.{goes_from, step_of}
use Rattle.rv_history.specs.Properties.{IdsCountUp, IsEntered, OrdersRise, PushesStand, TurnsKeepLaw, PullsShow}
use Rattle.rv_answering.specs.declared.answer.Answer.{Answer}
use Rattle.rv_answering.specs.declared.answer.Answer.TheVariants.{Pulled, Pushed}
use Rattle.rv_answering.specs.declared.request.Request.TheVariants.{Push, Pull, Retire, Close}
use Rattle.rv_answering.specs.declared.line.Line.{Line}
use Rattle.rv_answering.specs.declared.line.Line.TheVariants.{Asks, Stop}
use Rattle.rv_answering.specs.Requests.{Parsed}
use Rattle.rv_answering.specs.AnswerLaws.{no_push, pulled_same, went}
use Rattle.rv_answering.specs.Steps.{answer_of}
use Rattle.rv_history.specs.SuccessionLaws.{goes_on_same, goes_on_through}
use Rattle.rv_cli.specs.Headline.{Handles, Reopens, TakesLine, Run, ShowsAt, IsLawfulFeed, IsShown}
use Rattle.rv_cli.specs.TroubleLaws.{any_step_causes}
use Rattle.rv_wire.specs.Answers.{pull_json}
use Rattle.rv_turns.specs.declared.pull.PullRequest.{PullRequest}
use Rattle.rv_turns.specs.declared.pull.PullReply.{PullReply}
use Rattle.rv_turns.specs.Asks.{Sender, Ask}
use Rattle.rv_turns.specs.Pushing.{Pushes}
use Rattle.rv_turns.specs.declared.refusal.Refusal.{Refusal}
use Rattle.rv_wire.specs.declared.push.Push as pushes
use Rattle.std.specs.List.{AllByRecursion}
use Rattle.rv_turns.specs.declared.pushing.Outcome.{Outcome}
use Rattle.rv_turns.specs.declared.pushing.Outcome.TheVariants as outcomes

-- ---- What is known of a server stays known, and its book goes on.

goes_none : (old : Served) → IsSound old → KeepsLaw old old
goes_none old sound = record { sound = sound; more = goes_on_same old.book old.book refl; limit = refl; later = omega arith }

goes_on : (old mid new : Served) → KeepsLaw old mid → KeepsLaw mid new → KeepsLaw old new
goes_on old mid new one two = record {
  sound = two.sound;
  more = goes_on_through old.book mid.book new.book one.more two.more;
  limit = two.limit ∙ one.limit;
  later = let a = one.later in let b = two.later in omega (arith, a, b);
}

-- the law over stops: the book goes on where what is kept is told
record KeptLawful (Told : Type 0) (old new : Served) : Type 0 where
  pub sound : IsSound new
  pub more : Told → GoesOnFrom old.book new.book
  pub later : old.faults ≤ new.faults
  pub limit : old.limit ≡ 2 ^ 32 - 1 → new.limit ≡ 2 ^ 32 - 1

kept_on : (Told : Type 0) (old mid new : Served) → KeptLawful Told old mid → KeptLawful Told mid new → KeptLawful Told old new
kept_on Told old mid new before after = record {
  sound = after.sound;
  more = λ told. goes_on_through old.book mid.book new.book (before.more told) (after.more told);
  later = let one = before.later in let two = after.later in omega (arith, one, two);
  limit = λ is. after.limit (before.limit is);
}

kept_law : (Told : Type 0) (old new : Served) → KeepsLaw old new → KeptLawful Told old new
kept_law Told old new goes = record { sound = goes.sound; more = λ told. goes.more; later = goes.later; limit = λ is. goes.limit ∙ is }

-- settling what is in doubt is going on
settled_goes : (limit : ℕ) (book settled : Book) (doubt : Doubt) → MayStand book limit doubt → settled ≡ with_doubt book doubt → GoesOnFrom book settled
settled_goes limit book settled None next is = goes_on_same book settled is
settled_goes limit book settled (Some (Next.entry entry)) next is = ([], (entry ∷ [], is))
settled_goes limit book settled (Some (Next.closed closed)) next is =
    ((book, settled) ∷ [], (extends_same book book refl, subst (λ (b : Book). Closes book b) (sym is) next.0, extends_same settled settled refl))

pub settling_goes : (limit : ℕ) (book settled : Book) (doubt : Doubt) → MayStand book limit doubt → Settles book doubt settled → GoesOnFrom book settled
settling_goes limit book settled doubt next (inl same) = goes_on_same book settled same
settling_goes limit book settled doubt next (inr is) = settled_goes limit book settled doubt next is

kept_reopened : (Told : Type 0) (old new : Served) → IsSound old → Reopens Told old new → KeptLawful Told old new
kept_reopened Told old new sound r = record {
  sound = r.sound;
  more = λ told. settling_goes old.limit old.book new.book old.doubt sound.next (r.settled told);
  later = let n = r.faults in omega (arith, n);
  limit = λ is. r.limit ∙ is;
}

module _ (turns : TurnsKeepLaw pull_json) where
  step_keeps : (old new : Served) (asked : Parsed) (answer : Answer) → Handles old asked answer new → IsSound old → KeepsLaw old new
  step_keeps old new asked answer handled = (any_step_causes (λ trouble. Unit {0}) (TakesTurn pull_json) (λ old new. IsSound old → KeepsLaw old new) (λ old new. Unit {0})
      (λ s sound. goes_none s sound) (λ s t u one two sound. let first = one sound in goes_on s t u first (two first.sound)) (λ s t u one two. tt)
      (λ ask old new outcome taken. (λ sound. turns ask old new outcome taken sound, λ told. tt)) old new asked answer handled).0

  takes_keep : (Told : Type 0) (old new : Served) (line : Line) (answer : Option Answer) → TakesLine Told old line answer new → IsSound old → KeptLawful Told old new
  takes_keep Told old new (Asks asked) (Some answer) taken sound = kept_law Told old new (step_keeps old new asked answer taken.step sound)
  takes_keep Told old new Stop None reopens sound = kept_reopened Told old new sound reopens
  takes_keep Told old new (Asks asked) None never sound = absurd never
  takes_keep Told old new Stop (Some answer) never sound = absurd never

  run_keeps : (Told : Type 0) (first now : Served) (lines : List Line) (answers : List (Option Answer)) → Run Told first lines answers now → IsSound first → KeptLawful Told first now
  run_keeps Told first now [] [] same sound = subst (λ (s : Served). KeptLawful Told first s) (sym same) (kept_law Told first first (goes_none first sound))
  run_keeps Told first now [] (answer ∷ answers) h sound = absurd h
  run_keeps Told first now (line ∷ lines) [] h sound = absurd h
  run_keeps Told first now (line ∷ lines) (answer ∷ answers) (mid, step, rest) sound =
      let kept = takes_keep Told first mid line answer step sound in kept_on Told first mid now kept (run_keeps Told mid now lines answers rest kept.sound)

  pub books_are_lawful : IdsCountUp → OrdersRise → (Told : Type 0) (first now : Served) (lines : List Line) (answers : List (Option Answer)) → Run Told first lines answers now → IsSound first → IsLawfulFeed Told first now
  books_are_lawful ids orders Told first now lines answers run sound =
      let kept = run_keeps Told first now lines answers run sound in
      record { sound = kept.sound; more = kept.more; ids = λ client. ids now.book client kept.sound.lawful; orders = λ group. orders now.book group kept.sound.lawful; later = kept.later; limit = kept.limit }

-- each mutation of a push that is not refused stands
pub steps_stand : PushesStand pull_json → (point new : Served) (user : List ℕ) (push : pushes.Push) → IsSound point → Handles point (Ok (Push user push)) Pushed new
    → AllByRecursion (λ m. 1 ≤ m.id → IsEntered (record { user = user; group = push.group }) new.book m) push.mutations
steps_stand stand point new user push sound (acted, inl wants) = absurd (let no = wants.0 in cc)
steps_stand stand point new user push sound (acted, inr (refused, pushed, is)) =
    let from : Sender = record { user = user; group = push.group } in
    stand from push.mutations point new acted (subst (λ (r : Option Refusal). Pushes (TakesTurn pull_json) from push.mutations point r acted new) (went refused is) pushed) sound

-- no retirement is answered by a reply
pub no_retirement : (old new : Served) (group : List ℕ) (reply : PullReply) (outcome : Outcome) → Pulled reply ≡ answer_of outcome → TakesTurn pull_json old (Ask.retirement group) outcome new → ⊥
no_retirement old new group reply outcome is taken =
    let here : TakesTurn pull_json old (Ask.retirement group) (outcomes.Pulled reply) new = subst (λ (o : Outcome). TakesTurn pull_json old (Ask.retirement group) o new) (pulled_same reply outcome is) taken in
    step_of pull_json (Ask.retirement group) (outcomes.Pulled reply) old new here refl

-- the pull was answered at the settled book
record AnswersPull (point new : Served) (asked : Parsed) (reply : PullReply) : Type 0 where
  pub settled : Book
  pub settles : Settles point.book point.doubt settled
  pub shows : ShowsAt asked reply settled new.book
  pub here : Extends new.book settled

-- what a reply shows
pub pulled_shown : PullsShow pull_json → (limit : ℕ) (user : List ℕ) (pull : PullRequest) (reply : PullReply) (book new : Book) → Step pull_json limit book (Ask.pull user pull) (outcomes.Pulled reply) new → ShowsAt (Ok (Pull user pull)) reply book new
pulled_shown show limit user pull reply book new step = record { user = user; request = pull; asks = refl; tells = show limit user pull book new reply step }

-- nor is a closing
no_closing : (old new : Served) (reply : PullReply) (outcome : Outcome) → Pulled reply ≡ answer_of outcome → TakesTurn pull_json old Ask.closing outcome new → ⊥
no_closing old new reply outcome is taken =
    let here : TakesTurn pull_json old Ask.closing (outcomes.Pulled reply) new = subst (λ (o : Outcome). TakesTurn pull_json old Ask.closing o new) (pulled_same reply outcome is) taken in
    step_of pull_json Ask.closing (outcomes.Pulled reply) old new here refl

pulled_at : PullsShow pull_json → (point new : Served) (user : List ℕ) (pull : PullRequest) (reply : PullReply) (outcome : Outcome) → outcome ≡ outcomes.Pulled reply → TakesTurn pull_json point (Ask.pull user pull) outcome new → AnswersPull point new (Ok (Pull user pull)) reply
pulled_at show point new user pull reply outcome same taken =
    let here : TakesTurn pull_json point (Ask.pull user pull) (outcomes.Pulled reply) new = subst (λ (o : Outcome). TakesTurn pull_json point (Ask.pull user pull) o new) same taken in
    record {
      settled = here.settled;
      settles = here.settles;
      shows = pulled_shown show point.limit user pull reply here.settled new.book (step_of pull_json (Ask.pull user pull) (outcomes.Pulled reply) point new here refl);
      here = goes_from pull_json (Ask.pull user pull) (outcomes.Pulled reply) point new (λ never. never) here;
    }

shown_at : PullsShow pull_json → (point new : Served) (asked : Parsed) (reply : PullReply) → Handles point asked (Pulled reply) new → AnswersPull point new asked reply
shown_at show point new (Ok (Push user push)) reply (acted, inl wants) = absurd (let no = wants.0 in cc)
shown_at show point new (Ok (Push user push)) reply (acted, inr (refused, h, is)) = absurd (no_push reply refused is)
shown_at show point new (Ok (Pull user pull)) reply (acted, inl wants) = absurd (let no = wants.0 in cc)
shown_at show point new (Ok (Pull user pull)) reply (acted, inr (outcome, h, is, none)) = pulled_at show point new user pull reply outcome (pulled_same reply outcome is) h
shown_at show point new (Ok (Retire group)) reply (acted, (outcome, h, is, none)) = absurd (no_retirement point new group reply outcome is h)
shown_at show point new (Ok Close) reply (acted, (outcome, h, is, none)) = absurd (no_closing point new reply outcome is h)
shown_at show point new (Err fault) reply (acted, inl wants) = absurd (let no = wants.0 in cc)
shown_at show point new (Err fault) reply (acted, inr told) = absurd (let no = told.0 in cc)

pub steps_show : PullsShow pull_json → (point new : Served) (asked : Parsed) (reply : PullReply) → Handles point asked (Pulled reply) new → (settled : Book) × Settles point.book point.doubt settled × ShowsAt asked reply settled new.book × Extends new.book settled
steps_show show point new asked reply step = let at = shown_at show point new asked reply step in (at.settled, at.settles, at.shows, at.here)

pub pulls_are_shown : TurnsKeepLaw pull_json → PullsShow pull_json → (Told : Type 0) (first now : Served) (before after : List Line) (answered answers : List (Option Answer)) (asked : Parsed) (reply : PullReply) → IsSound first → length before ≡ length answered
    → Run Told first (before ++ Asks asked ∷ after) (answered ++ Some (Pulled reply) ∷ answers) now → IsShown Told first now before answered asked reply
pulls_are_shown turns show Told first now [] after [] answers asked reply sound same (mid, taken, rest) =
    let law = step_keeps turns first mid asked (Pulled reply) taken.step sound in
    let at = shown_at show first mid asked reply taken.step in
    record { point = first; new = mid; settled = at.settled; run = refl; step = taken.step; settles = at.settles; shows = at.shows; here = at.here; on = (run_keeps turns Told mid now after answers rest law.sound).more }
pulls_are_shown turns show Told first now [] after (x ∷ answered) answers asked reply sound same run = absurd (omega (arith, same))
pulls_are_shown turns show Told first now (a ∷ before) after [] answers asked reply sound same run = absurd (omega (arith, same))
pulls_are_shown turns show Told first now (a ∷ before) after (x ∷ answered) answers asked reply sound same (mid, step, rest) =
    let kept = takes_keep turns Told first mid a x step sound in
    let shown = pulls_are_shown turns show Told mid now before after answered answers asked reply kept.sound (omega (arith, same)) rest in
    record { point = shown.point; new = shown.new; settled = shown.settled; run = (mid, step, shown.run); step = shown.step; settles = shown.settles; shows = shown.shows; here = shown.here; on = shown.on }

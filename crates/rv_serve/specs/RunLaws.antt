-- What is answered is a run: the laws of answers over anyone who takes turns.
use Rattle.std.proofs.Common.{◌≡◌, ℕ, ◌+◌, Bool, List, [], ◌∷◌, ◌++◌, Result, Ok, Err, refl, sym, ap, ◌∙◌, subst, append_assoc}
use Rattle.std.specs.List.{flat_map}
use Rattle.rv_base.specs.declared.outside.Source.{Ghosts as SourceGhosts}
use Rattle.rv_base.specs.declared.outside.Sink.{Ghosts as SinkGhosts}
use Rattle.rv_http.specs.declared.http_end.HttpEnd.{HttpEnd}
use Rattle.rv_accounts.specs.File.{AccountsServed as Accounts}
use Rattle.rv_answering.specs.declared.answer.Answer.{Answer}
use Rattle.rv_answering.specs.Requests.{Parsed}
use Rattle.rv_serve.specs.Replies.{asked_of, AnswersAsked}
use Rattle.rv_serve.specs.Talk.{Exchange, AnswersEach, AnswersLast, last_of}
use Rattle.rv_serve.specs.Properties.{turn_of, turns_of, RunsTurns, TalksAreRuns, ConnsAreRuns}
use Rattle.rv_turns.specs.Asks.{Ask}
use Rattle.rv_turns.specs.declared.pushing.Outcome.{Outcome}
use Rattle.rv_http.specs.declared.rejection.Rejection.{Rejection}
use Rattle.rv_serve.specs.declared.http_answer.HttpAnswer.{HttpAnswer}
use Rattle.rv_serve.specs.declared.http_answer.HttpAnswer.TheVariants.{Answered, Rejected}

turns_of-append : (accounts : Accounts) (xs ys : List Exchange) → turns_of accounts (xs ++ ys) ≡ turns_of accounts xs ++ turns_of accounts ys
turns_of-append accounts [] ys = refl
turns_of-append accounts (x ∷ xs) ys =
    let turn = turn_of (asked_of accounts x.request) x.answer in
    ap (λ (ts : List (Parsed × Answer)). turn ++ ts) (turns_of-append accounts xs ys) ∙ sym (append_assoc turn (turns_of accounts xs) (turns_of accounts ys))

module _ {S : Type 0} (takes : S → Ask → Outcome → S → Type 0) where
  abbrev Runs : S → List (Parsed × Answer) → S → Type 0
  Runs = RunsTurns takes

  run_after : (old mid new : S) (ts us : List (Parsed × Answer)) → Runs old ts mid → Runs mid us new → Runs old (ts ++ us) new
  run_after old mid new [] us same run = subst (λ (s : S). Runs s us new) same run
  run_after old mid new (t ∷ ts) us (next, step, rest) run = (next, step, run_after next mid new ts us rest run)

  -- what one request asked
  asked_runs : (settled : S → ℕ) (old new : S) (asked : Result Parsed Rejection) (answer : HttpAnswer) (entered : Bool) → AnswersAsked takes settled old asked answer entered new → Runs old (turn_of asked answer) new
  asked_runs settled old new (Ok asked) (Answered answer) entered (acted, step, is) = (new, (acted, step), refl)
  asked_runs settled old new (Ok asked) (Rejected rejection) entered never = absurd never
  asked_runs settled old new (Err rejection) (Answered answer) entered (is, none, same) = same
  asked_runs settled old new (Err rejection) (Rejected other) entered (is, none, same) = same

  each_runs : (settled : S → ℕ) (accounts : Accounts) (number : ℕ) (old new : S) (bytes rest : List ℕ) (xs : List Exchange) → AnswersEach takes settled accounts number old bytes xs new rest → Runs old (turns_of accounts xs) new
  each_runs settled accounts number old new bytes rest [] (same, left) = same
  each_runs settled accounts number old new bytes rest (x ∷ xs) (after, mid, gives, replies, on, each) =
      run_after old mid new (turn_of (asked_of accounts x.request) x.answer) (turns_of accounts xs) (asked_runs settled old mid (asked_of accounts x.request) x.answer x.entered replies) (each_runs settled accounts (number + 1) mid new after rest xs each)

  last_runs : (settled : S → ℕ) (accounts : Accounts) (old new : S) (last : Result Exchange HttpEnd) → AnswersLast takes settled accounts old last new → Runs old (turns_of accounts (last_of last)) new
  last_runs settled accounts old new (Ok x) replies = run_after old new new (turn_of (asked_of accounts x.request) x.answer) [] (asked_runs settled old new (asked_of accounts x.request) x.answer x.entered replies) refl
  last_runs settled accounts old new (Err cause) same = same

  pub talk_runs : TalksAreRuns takes
  talk_runs settled accounts old new input input' output output' end talk =
      subst (λ (ts : List (Parsed × Answer)). Runs old ts new) (sym (turns_of-append accounts talk.exchanges (last_of talk.last)))
      (run_after old talk.mid new (turns_of accounts talk.exchanges) (turns_of accounts (last_of talk.last)) (each_runs settled accounts 1 old talk.mid talk.read talk.rest talk.exchanges talk.answers) (last_runs settled accounts talk.mid new talk.last talk.answers_last))

  module _ {I O : Type 0} (source : SourceGhosts I) (sink : SinkGhosts O) where
    pub conns_run : ConnsAreRuns takes source sink
    conns_run settled accounts old new [] same = same
    conns_run settled accounts old new (conn ∷ conns) (mid, serves, each) =
        subst (λ (ts : List (Parsed × Answer)). Runs old ts new) (sym (turns_of-append accounts conn.answers (flat_map (λ c. c.answers) conns)))
        (run_after old mid new (turns_of accounts conn.answers) (turns_of accounts (flat_map (λ c. c.answers) conns))
        (subst (λ (xs : List Exchange). Runs old (turns_of accounts xs) mid) (sym serves.answers) (talk_runs settled accounts old mid _ _ _ _ conn.end serves.talks)) (conns_run settled accounts mid new conns each))

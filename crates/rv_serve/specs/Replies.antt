-- What a request asks, and what it is answered. The state, and the turns on it, are anyone's who takes turns.
use Rattle.std.specs.Prelude.{◌≡◌, ◌==◌, ◌||◌, ℕ, Bool, not, false, List, bytes_eq, Result, Ok, Err, option_and_then}
use Rattle.std.specs.List.{list_any}
use Rattle.rv_base.specs.Chains.{◌>>=◌, need}
use Rattle.rv_wire.specs.Bodies.{push_body, pull_body}
use Rattle.rv_http.specs.declared.request.Request.{Request}
use Rattle.rv_http.specs.declared.routes.Route.{Route}
use Rattle.rv_http.specs.declared.routes.Route.TheVariants.{Push, Pull, NoRoute, OtherMethod}
use Rattle.rv_http.specs.Routes.{route_of}
use Rattle.rv_accounts.specs.File.{AccountsServed as Accounts, user_in}
use Rattle.rv_answering.specs.Requests.{Parsed, push_asked, pull_asked}
use Rattle.rv_answering.specs.Steps.{HandlesActing}
use Rattle.rv_turns.specs.Asks.{Ask}
use Rattle.rv_turns.specs.declared.pushing.Outcome.{Outcome}
use Rattle.rv_http.specs.declared.rejection.Rejection.{Rejection}
use Rattle.rv_http.specs.declared.rejection.Rejection.TheVariants as rejections
use Rattle.rv_serve.specs.declared.http_answer.HttpAnswer.{HttpAnswer}
use Rattle.rv_serve.specs.declared.http_answer.HttpAnswer.TheVariants.{Answered, Rejected}

-- a schema version is served where it is one of these
abbrev pub serves : List (List ℕ) → List ℕ → Bool
serves schemas schema = list_any (λ served. bytes_eq served schema) schemas

-- The user of a request is that of the account whose key is the whole value of its first Authorization field. Without one the
-- request is not authorized (RFC 9110, sections 11.6.2 and 15.5.2).
abbrev pub user_by_key : Accounts → Request → Result (List ℕ) Rejection
user_by_key accounts request = need rejections.Unauthorized (option_and_then (λ key. user_in key accounts.accounts) request.authorization)

-- What is asked where a request goes: its body is a push or a pull of its user, where it has one.
abbrev pub asked_at : Accounts → Request → Route → Result Parsed Rejection
asked_at accounts request NoRoute = Err rejections.NoRoute
asked_at accounts request OtherMethod = Err rejections.OtherMethod
asked_at accounts request Push = user_by_key accounts request >>= λ user. Ok (push_asked user (push_body (serves accounts.schemas) request.body))
asked_at accounts request Pull = user_by_key accounts request >>= λ user. Ok (pull_asked user (pull_body (serves accounts.schemas) request.body))

-- What a request asks, or the first thing that it is rejected for before its body: the path is not served, it is for another
-- method, or no account has the key.
abbrev pub asked_of : Accounts → Request → Result Parsed Rejection
asked_of accounts request = asked_at accounts request (route_of request.method request.path)

module _ {S : Type 0} (takes : S → Ask → Outcome → S → Type 0) (settled : S → ℕ) where
  -- What is asked is answered by its turns, and entered tells whether they entered what others may have to be told of: a mutation that
  -- was run for it, or what had been in doubt. Where nothing is asked the rejection is the answer, and nothing changes.
  abbrev pub AnswersAsked : S → Result Parsed Rejection → HttpAnswer → Bool → S → Type 0
  AnswersAsked old (Ok parsed) (Answered answer) entered new = (acted : Bool) × HandlesActing takes old parsed answer acted new × (entered ≡ (acted || not (settled old == settled new)))
  AnswersAsked old (Ok parsed) (Rejected rejection) entered new = ⊥
  AnswersAsked old (Err rejection) answer entered new = (answer ≡ Rejected rejection) × (entered ≡ false) × (new ≡ old)

  -- a request is answered so
  abbrev pub Responds : Accounts → S → Request → HttpAnswer → Bool → S → Type 0
  Responds accounts old request answer entered new = AnswersAsked old (asked_of accounts request) answer entered new

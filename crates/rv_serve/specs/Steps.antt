-- The steps of serving a connection.
use Rattle.std.specs.Prelude.{◌≡◌, ℕ, Bool, List, Option, Some, None, Result, Ok, Err, IfOk}
use Rattle.std.specs.Borrow.{Bor}
use Rattle.std.specs.Io.KnownBytes.{Appends}
use Rattle.rv_base.specs.Outside.{OutputState, Writes}
use Rattle.rv_http.specs.declared.request.Request.{Request}
use Rattle.rv_http.specs.declared.http_end.HttpEnd.{HttpEnd}
use Rattle.rv_http.specs.declared.response.WriteFault.{WriteFault}
use Rattle.rv_accounts.specs.File.{AccountsServed as Accounts}
use Rattle.rv_serve.specs.declared.heard.Heard.{Heard}
use Rattle.rv_serve.specs.Hearing.{Hears}
use Rattle.rv_serve.specs.declared.conn_end.ConnEnd.{ConnEnd}
use Rattle.rv_serve.specs.Replies.{Responds}
use Rattle.rv_serve.specs.Talk.{closes_at, exchange_text, heard_of, EndsWithText, EndsUnread}
use Rattle.rv_serve.specs.Causes.{OutputCause}
use Rattle.rv_turns.specs.Asks.{Ask}
use Rattle.rv_turns.specs.declared.pushing.Outcome.{Outcome}
use Rattle.rv_http.specs.declared.rejection.Rejection.{Rejection}
use Rattle.rv_http.specs.declared.rejection.Rejection.TheVariants as rejections
use Rattle.rv_serve.specs.declared.http_answer.HttpAnswer.{HttpAnswer}

-- the user that was found, or the refusal where there is none
abbrev pub user_found : Option (Bor (List ℕ)) → Result (List ℕ) Rejection
user_found (Some user) = Ok user.now
user_found None = Err rejections.Unauthorized

-- a text that ends a connection, with which so many answers are written
pub record WritesLast (count : ℕ) (whole : List ℕ) (output output' : OutputState) (end : ConnEnd) : Type 0 where
  pub text : List ℕ
  pub tells : EndsWithText count whole text end
  pub appended : Appends output.written output'.written text
  pub cause : OutputCause output output' end

-- a connection is ended after so many answers, where no request was read for this cause
pub record EndsConn (count : ℕ) (unread : HttpEnd) (output output' : OutputState) (end : ConnEnd) : Type 0 where
  pub text : List ℕ
  pub ends : EndsUnread count unread text output.faults output'.faults end
  pub appended : Appends output.written output'.written text
  pub cause : OutputCause output output' end

module _ {S : Type 0} (takes : S → Ask → Outcome → S → Type 0) (settled : S → ℕ) (accounts : Accounts) where
  -- A request, a connection's so many-th, is answered, and its response is written, or a front of it. Whether it closes is told, and
  -- the gate hears of it.
  pub record AnswersOne (number : ℕ) (old : S) (request : Request) (output output' : OutputState) (heard heard' : Option (List Heard)) (new : S) (result : Result Bool WriteFault) : Type 0 where
    pub answer : HttpAnswer
    pub entered : Bool
    pub replies : Responds takes settled accounts old request answer entered new
    pub writes : Writes output output' result (exchange_text number (record { request = request; answer = answer; entered = entered }))
    pub hears : Hears heard heard' (heard_of number (record { request = request; answer = answer; entered = entered }))
    pub closes : IfOk result (λ closes. closes ≡ closes_at number request)

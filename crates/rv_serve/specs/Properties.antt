-- What is answered over connections is a run of the server's turns.
use Rattle.std.specs.Prelude.{ℕ, List, [], ◌∷◌, ◌++◌, map, Result, Ok}
use Rattle.std.specs.List.{flat_map}
use Rattle.rv_base.specs.Outside.{InputState, OutputState}
use Rattle.rv_base.specs.declared.outside.Source.{Ghosts as SourceGhosts}
use Rattle.rv_base.specs.declared.outside.Sink.{Ghosts as SinkGhosts}
use Rattle.rv_accounts.specs.File.{AccountsServed as Accounts}
use Rattle.rv_answering.specs.declared.answer.Answer.{Answer}
use Rattle.rv_answering.specs.Requests.{Parsed}
use Rattle.rv_answering.specs.Steps.{HandlesAll}
use Rattle.rv_serve.specs.declared.conn_end.ConnEnd.{ConnEnd}
use Rattle.rv_serve.specs.Replies.{asked_of}
use Rattle.rv_serve.specs.Talk.{Exchange, Talks, answered}
use Rattle.rv_serve.specs.Listening.{ServedConn, ServesEach}
use Rattle.rv_turns.specs.Asks.{Ask}
use Rattle.rv_turns.specs.declared.pushing.Outcome.{Outcome}
use Rattle.rv_http.specs.declared.rejection.Rejection.{Rejection}
use Rattle.rv_serve.specs.declared.http_answer.HttpAnswer.{HttpAnswer}
use Rattle.rv_serve.specs.declared.http_answer.HttpAnswer.TheVariants.{Answered}

-- what is asked, with its answer, where something is asked
abbrev pub turn_of : Result Parsed Rejection → HttpAnswer → List (Parsed × Answer)
turn_of (Ok parsed) (Answered answer) = (parsed, answer) ∷ []
turn_of parsed answer = []

-- What the requests asked, in order, with their answers. A request that was rejected before its body asked nothing.
abbrev pub turns_of : Accounts → List Exchange → List (Parsed × Answer)
turns_of accounts [] = []
turns_of accounts (x ∷ xs) = turn_of (asked_of accounts x.request) x.answer ++ turns_of accounts xs

module _ {S : Type 0} (takes : S → Ask → Outcome → S → Type 0) where
  -- these are asked and answered so, one after another
  abbrev pub RunsTurns : S → List (Parsed × Answer) → S → Type 0
  RunsTurns old turns new = HandlesAll takes old (map (λ turn. turn.0) turns) (map (λ turn. turn.1) turns) new

  -- What was answered on a connection is a run from the state before it to the state after it.
  abbrev pub TalksAreRuns : Type 0
  TalksAreRuns = (settled : S → ℕ) (accounts : Accounts) (old new : S) (input input' : InputState) (output output' : OutputState) (end : ConnEnd) (talk : Talks takes settled accounts old new input input' output output' end)
      → RunsTurns old (turns_of accounts (answered takes settled accounts talk)) new

  -- So is all that was answered on connections that were served one after another.
  abbrev pub ConnsAreRuns : {I O : Type 0} → SourceGhosts I → SinkGhosts O → Type 0
  ConnsAreRuns {I} {O} source sink = (settled : S → ℕ) (accounts : Accounts) (old new : S) (conns : List (ServedConn I O))
      → ServesEach takes settled source sink accounts old conns new → RunsTurns old (turns_of accounts (flat_map (λ conn. conn.answers) conns)) new

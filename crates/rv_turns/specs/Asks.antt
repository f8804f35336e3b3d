-- What is asked of a server in one turn, as a value.
use Rattle.std.specs.Prelude.{ℕ, List}
use Rattle.rv_turns.specs.declared.asked.Asked.{Asked}
use Rattle.rv_turns.specs.declared.asked.Asked.TheVariants as lent
use Rattle.rv_turns.specs.declared.mutation.Mutation.{Mutation}
use Rattle.rv_turns.specs.declared.pull.PullRequest.{PullRequest}

-- who sends what
pub record Sender : Type 0 where
  pub user : List ℕ
  pub group : List ℕ

-- A mutation is to be run; a client group is to be told what its user sees; a client group is to be retired; the book is to be closed.
pub data Ask : Type 0 where
  mutation : Sender → Mutation → Ask
  pull : List ℕ → PullRequest → Ask
  retirement : List ℕ → Ask
  closing : Ask

-- that the book be closed
abbrev pub IsClosing : Ask → Type 0
IsClosing Ask.closing = Unit {0}
IsClosing ask = ⊥

-- what is asked, without the references by which it is lent
abbrev pub ask_of : Asked → Ask
ask_of (lent.Mutation user group client id call) = Ask.mutation (record { user = user.now; group = group.now }) (record { client = client.now; id = id; call = call })
ask_of (lent.Pull user request) = Ask.pull user.now request.now
ask_of (lent.Retirement group) = Ask.retirement group.now
ask_of lent.Closing = Ask.closing

-- The connections of a listener, served one after another.
use Rattle.std.specs.Prelude.{◌≡◌, ℕ, List, [], ◌∷◌, ◌++◌, map}
use Rattle.std.specs.List.{flat_map}
use Rattle.rv_base.specs.declared.outside.Source.{Ghosts as SourceGhosts}
use Rattle.rv_base.specs.declared.outside.Sink.{Ghosts as SinkGhosts}
use Rattle.rv_net.specs.declared.conn.Conn.{Conn}
use Rattle.rv_net.specs.declared.listen.Listen.{Ghosts as ListenGhosts}
use Rattle.rv_accounts.specs.File.{AccountsServed as Accounts}
use Rattle.rv_serve.specs.declared.gate.Gate.{Ghosts as GateGhosts}
use Rattle.rv_serve.specs.declared.heard.Heard.{Heard}
use Rattle.rv_serve.specs.Hearing.{Hears}
use Rattle.rv_serve.specs.declared.conn_end.ConnEnd.{ConnEnd}
use Rattle.rv_serve.specs.Talk.{Exchange, Talks, answered, heard_from}
use Rattle.rv_serve.specs.Causes.{ConnCause, ConnInputIsSteady, ConnOutputIsSteady}
use Rattle.rv_turns.specs.Asks.{Ask}
use Rattle.rv_turns.specs.declared.pushing.Outcome.{Outcome}

-- a connection as it was given and as it went back, how serving it ended, and all that was answered on it
pub record ServedConn (I O : Type 0) : Type 0 where
  pub given : Conn I O
  pub back : Conn I O
  pub end : ConnEnd
  pub answers : List Exchange

-- what a gate hears of connections that are served one after another, of each with the numbers from 1 on
abbrev pub heard_over : {I O : Type 0} → List (ServedConn I O) → List Heard
heard_over conns = flat_map (λ conn. heard_from 1 conn.answers) conns

-- Where the connections of a listener are told: these are all that were to come and none is to come now, each is back, in order,
-- and as many are out as before.
pub record AreBack {I O : Type 0} (conns : List (ServedConn I O)) (to_come to_come' came_back came_back' : List (Conn I O)) (out out' : ℕ) : Type 0 where
  pub given : to_come ≡ map (λ conn. conn.given) conns
  pub none : to_come' ≡ []
  pub back : came_back' ≡ came_back ++ map (λ conn. conn.back) conns
  pub same : out' ≡ out

module _ {S I O : Type 0} (takes : S → Ask → Outcome → S → Type 0) (settled : S → ℕ) (source : SourceGhosts I) (sink : SinkGhosts O) (accounts : Accounts) where
  -- a connection is served from one state to the next, as the clauses of serving it say
  pub record ServesConn (old : S) (conn : ServedConn I O) (new : S) : Type 0 where
    pub talks : Talks takes settled accounts old new (source.state conn.given.source) (source.state conn.back.source) (sink.state conn.given.sink) (sink.state conn.back.sink) conn.end
    pub answers : conn.answers ≡ answered takes settled accounts talks
    pub cause : ConnCause (source.state conn.given.source) (source.state conn.back.source) (sink.state conn.given.sink) (sink.state conn.back.sink) conn.end
    pub steady_input : source.fails_no_more conn.given.source → ConnInputIsSteady (source.fails_no_more conn.back.source) conn.end
    pub steady_output : sink.fails_no_more conn.given.sink → ConnOutputIsSteady (sink.fails_no_more conn.back.sink) (sink.state conn.given.sink) (sink.state conn.back.sink) conn.end

  -- connections are served one after another, each from the state that the one before it left
  abbrev pub ServesEach : S → List (ServedConn I O) → S → Type 0
  ServesEach old [] new = new ≡ old
  ServesEach old (conn ∷ conns) new = (mid : S) × ServesConn old conn mid × ServesEach mid conns new

module _ {S L I O : Type 0} (takes : S → Ask → Outcome → S → Type 0) (settled : S → ℕ) (listen : ListenGhosts L I O) (source : SourceGhosts I) (sink : SinkGhosts O) (accounts : Accounts) where
  -- All connections that a listener gave are served and went back to it.
  pub record ServesAll (old : S) (given : L) (new : S) (back : L) : Type 0 where
    pub conns : List (ServedConn I O)
    pub serves : ServesEach takes settled source sink accounts old conns new
    pub are_back : listen.tells back → AreBack conns (listen.to_come given) (listen.to_come back) (listen.came_back given) (listen.came_back back) (listen.out given) (listen.out back)

  -- They are served past a gate, which heard of all that was answered on them and of nothing else.
  pub record ServesPast {W : Type 0} (gate : GateGhosts W) (old : S) (given : L) (before : W) (new : S) (back : L) (after : W) : Type 0 where
    pub all : ServesAll old given new back
    pub hears : Hears (gate.heard before) (gate.heard after) (heard_over all.conns)

-- What follows from the promise of `feed`, over a place and a source that tell; and of `retire` and `close-book`, which are `feed` over their
-- one line.
use Rattle.std.specs.Prelude.{ℕ, ◌≡◌, ◌≤◌, ◌<◌, ◌-◌, ◌^◌, ◌⊎◌, List, [], ◌∷◌, ◌++◌, length, Option, Some, IfSome, Ok}
use Rattle.std.specs.List.{flat_map, AllByRecursion}
use Rattle.std.specs.Io.KnownBytes.{Appends}
use Rattle.rv_base.specs.Outside.{InputState, OutputState}
use Rattle.rv_base.specs.declared.outside.Source.{Ghosts as SourceGhosts}
use Rattle.rv_base.specs.declared.outside.Sink.{Ghosts as SinkGhosts}
use Rattle.rv_base.specs.Writes.{IsFront}
use Rattle.rv_lines.specs.Lines.{lines_of}
use Rattle.rv_keeper.specs.declared.place.Place.{Ghosts as PlaceGhosts}
use Rattle.rv_history.specs.Clients.{ClientPull, IsClient, IsCurrent, held_then}
use Rattle.rv_history.specs.Properties.{IsEntered}
use Rattle.rv_history.specs.Served.{Served}
use Rattle.rv_answering.specs.declared.answer.Answer.{Answer}
use Rattle.rv_answering.specs.declared.answer.Answer.TheVariants.{Pushed, Pulled}
use Rattle.rv_answering.specs.declared.line.Line.{Line}
use Rattle.rv_answering.specs.declared.line.Line.TheVariants.{Asks}
use Rattle.rv_answering.specs.declared.request.Request.TheVariants.{Push, Pull}
use Rattle.rv_answering.specs.Requests.{Parsed}
use Rattle.rv_cli.specs.declared.ending.Ending.{Ending}
use Rattle.rv_cli.specs.Change.{change}
use Rattle.rv_cli.specs.Headline.{Are, Begins, IsLawfulFeed, IsLeftAs, IsShown, Leaves, NotFed, NotOpened, Run, AnswersTrouble, told_text}
use Rattle.rv_cli.specs.FeedPromise.{WasFed}
use Rattle.rv_cli.specs.ReplyPromises.{WasAnswered}
use Rattle.rv_cli.specs.Texts.{status_of}
use Rattle.rv_laws.specs.Reads.{AllRead}
use Rattle.rv_turns.specs.declared.pull.PullReply.{PullReply}
use Rattle.rv_turns.specs.declared.pull.PullRequest.{PullRequest}
use Rattle.rv_wire.specs.declared.push.Push as pushes

-- ---- A run, and what was asked at a line of it.

-- these are what the first lines of the bytes ask
abbrev pub AreFirst : List Line → List ℕ → Type 0
AreFirst lines bytes = (first others : List (List ℕ)) × (lines_of bytes ≡ first ++ others) × Are 1 first lines

-- the text, or a front of it
abbrev pub IsFrontOrAll : List ℕ → List ℕ → Type 0
IsFrontOrAll part text = (part ≡ text) ⊎ IsFront part text

-- this was written of the text of the answers, and then a text of the status
abbrev pub WritesAnswers : OutputState → OutputState → List (Option Answer) → Type 0
WritesAnswers old new answers = (text own : List ℕ) × Appends old.written new.written (text ++ own) × IsFrontOrAll text (flat_map told_text answers)

-- At some line this was asked, and was answered so.
pub record IsTurn (lines : List Line) (answers : List (Option Answer)) (asked : Parsed) (answer : Answer) : Type 0 where
  pub before : List Line
  pub after : List Line
  pub answered : List (Option Answer)
  pub others : List (Option Answer)
  pub asks : lines ≡ before ++ Asks asked ∷ after
  pub told : answers ≡ answered ++ Some answer ∷ others
  pub same : length before ≡ length answered

module _ (Told : Type 0) (first now : Served) (lines : List Line) (answers : List (Option Answer)) (user : List ℕ) where
  -- the pull is one of the run's, by this user
  abbrev pub IsPull : ClientPull → Type 0
  IsPull pull = IsTurn lines answers (Ok (Pull user pull.request)) (Pulled pull.reply)

  -- The pull is answered at the settled book of that point of the run, and leaves the client with what its user sees there.
  pub record FollowsRun (pull : ClientPull) (turn : IsPull pull) : Type 0 where
    pub shown : IsShown Told first now turn.before turn.answered (Ok (Pull user pull.request)) pull.reply
    pub current : IsCurrent user pull.request.group shown.settled (held_then pull)

  abbrev pub EachFollows : (pulls : List ClientPull) → AllByRecursion IsPull pulls → Type 0
  EachFollows [] turns = Unit {0}
  EachFollows (pull ∷ pulls) (turn, turns) = FollowsRun pull turn × EachFollows pulls turns

-- The pull is answered at the settled book of that point of the run, and reads the push there.
pub record ReadsRun (Told : Type 0) (first now : Served) (lines : List Line) (answers : List (Option Answer)) (user reader : List ℕ) (push : pushes.Push) (request : PullRequest) (reply : PullReply) (read : IsTurn lines answers (Ok (Pull reader request)) (Pulled reply)) : Type 0 where
  pub shown : IsShown Told first now read.before read.answered (Ok (Pull reader request)) reply
  pub reads : AllRead user push shown.settled

-- ---- What holds of each run of `feed` on a store of a place, which is this before and this after. The source held these bytes.

module _ {P K : Type 0} (place : PlaceGhosts P K) where
  -- A run of the server over the first lines of the bytes, from the book that the store kept to the one that it keeps.
  pub record FeedRun (old new : P) (store bytes : List ℕ) (output output' : OutputState) : Type 0 where
    pub told : place.tells new
    pub first : Served
    pub now : Served
    pub lines : List Line
    pub answers : List (Option Answer)
    pub begins : Begins (change place store old new) first
    pub run : Run (place.tells new) first lines answers now
    pub leaves : Leaves (change place store old new) now
    pub asked : AreFirst lines bytes
    pub written : WritesAnswers output output' answers

  -- the store did not open, nothing was read, and the store holds what it held
  abbrev pub DidNotOpen : P → P → List ℕ → InputState → InputState → OutputState → OutputState → ℕ → Type 0
  DidNotOpen old new store input input' output output' status =
      (ending : Ending) × (status ≡ status_of ending) × NotFed (change place store old new) input input' output output' ending
      × IsLeftAs (change place store old new)

  -- The promise says that there was such a run, or that the store did not open.
  abbrev pub FeedsAreRuns : {S O : Type 0} → SourceGhosts S → SinkGhosts O → Type 0
  FeedsAreRuns {S} {O} input output = (old new : P) (store : List ℕ) (read read' : S) (out out' : O) (status : ℕ)
      → WasFed place input output store old new read read' out out' status → place.tells new
      → IfSome (input.state read).left (λ bytes. DidNotOpen old new store (input.state read) (input.state read') (output.state out) (output.state out') status ⊎ FeedRun old new store bytes (output.state out) (output.state out'))

  -- The book at the end of a run is lawful and goes on from the one that the store kept, and the store keeps it.
  pub record KeepsLawful (old new : P) (store : List ℕ) : Type 0 where
    pub first : Served
    pub now : Served
    pub begins : Begins (change place store old new) first
    pub lawful : IsLawfulFeed (place.tells new) first now
    pub leaves : Leaves (change place store old new) now

  -- Whatever the source tells, the promise says that there was such a run, or that the store did not open.
  abbrev pub FeedsKeepLawful : {S O : Type 0} → SourceGhosts S → SinkGhosts O → Type 0
  FeedsKeepLawful {S} {O} input output = (old new : P) (store : List ℕ) (read read' : S) (out out' : O) (status : ℕ)
      → WasFed place input output store old new read read' out out' status → place.tells new
      → DidNotOpen old new store (input.state read) (input.state read') (output.state out) (output.state out') status ⊎ KeepsLawful old new store

  -- the store did not open, and holds what it held
  abbrev pub DidNotReply : P → P → List ℕ → OutputState → OutputState → ℕ → Type 0
  DidNotReply old new store output output' status =
      (ending : Ending) × (status ≡ status_of ending) × NotOpened (change place store old new) output output' ending × IsLeftAs (change place store old new)

  -- The promise of a command that answers one line says that there was such a run over any bytes that begin with that line, or that the store
  -- did not open.
  abbrev pub RepliesAreRuns : {O : Type 0} → SinkGhosts O → Type 0
  RepliesAreRuns {O} output = (old new : P) (store : List ℕ) (line : Line) (out out' : O) (status : ℕ)
      → WasAnswered place output store line old new out out' status → place.tells new → (bytes : List ℕ) → AreFirst (line ∷ []) bytes
      → DidNotReply old new store (output.state out) (output.state out') status ⊎ FeedRun old new store bytes (output.state out) (output.state out')

  -- something holds of all such runs
  abbrev pub OfAllRuns : ((old new : P) (store bytes : List ℕ) (output output' : OutputState) → FeedRun old new store bytes output output' → Type 0) → Type 0
  OfAllRuns Holds = (old new : P) (store bytes : List ℕ) (output output' : OutputState) (run : FeedRun old new store bytes output output') → Holds old new store bytes output output' run

  -- The book at the end is lawful and goes on from the first, each client's acts have the ids 1, 2, 3 and so on, and orders rise.
  abbrev pub FedBooksAreLawful : Type 0
  FedBooksAreLawful = OfAllRuns (λ old new store bytes output output' run. IsLawfulFeed (place.tells new) run.first run.now)

  -- Each pull that was answered shows what its user sees at that point.
  abbrev pub FedPullsAreShown : Type 0
  FedPullsAreShown = OfAllRuns (λ old new store bytes output output' run. (asked : Parsed) (reply : PullReply) (turn : IsTurn run.lines run.answers asked (Pulled reply))
      → IsShown (place.tells new) run.first run.now turn.before turn.answered asked reply)

  -- Where the place's count of faults stayed below its last value, no answer tells a trouble with what keeps the book.
  abbrev pub FedTroublesHaveCauses : Type 0
  FedTroublesHaveCauses = OfAllRuns (λ old new store bytes output output' run. place.faults new ≡ place.faults old → place.faults old < 2 ^ 64 - 1 → AllByRecursion (λ answer. AnswersTrouble answer → ⊥) run.answers)

  -- Each mutation of a push that was not refused stands in the book at the end; but for an id of 0, which is skipped and stands nowhere.
  abbrev pub FedPushesStand : Type 0
  FedPushesStand = OfAllRuns (λ old new store bytes output output' run. (user : List ℕ) (push : pushes.Push) → IsTurn run.lines run.answers (Ok (Push user push)) Pushed
      → AllByRecursion (λ m. 1 ≤ m.id → IsEntered (record { user = user; group = push.group }) run.now.book m) push.mutations)

  -- A client that begins with nothing holds after each of its pulls what its user sees at that point of the run.
  abbrev pub FedClientsFollow : Type 0
  FedClientsFollow = OfAllRuns (λ old new store bytes output output' run. (user : List ℕ) (pulls : List ClientPull) → IsClient pulls → (turns : AllByRecursion (IsPull (place.tells new) run.first run.now run.lines run.answers user) pulls)
      → EachFollows (place.tells new) run.first run.now run.lines run.answers user pulls turns)

  -- Each pull reads, at the settled book at which it is answered, each push that was answered as done at a line before it, whoever asks.
  abbrev pub FedWritesAreRead : Type 0
  FedWritesAreRead = OfAllRuns (λ old new store bytes output output' run. (user reader : List ℕ) (push : pushes.Push) (request : PullRequest) (reply : PullReply) (read : IsTurn run.lines run.answers (Ok (Pull reader request)) (Pulled reply))
      → IsTurn read.before read.answered (Ok (Push user push)) Pushed → ReadsRun (place.tells new) run.first run.now run.lines run.answers user reader push request reply read)

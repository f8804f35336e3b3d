-- What follows from the promise of `serve`.
use Rattle.std.specs.Prelude.{ℕ, ◌≡◌, ◌≤◌, ◌<◌, ◌-◌, ◌^◌, ◌⊎◌, List, ◌++◌, length, Some, Ok, Contains}
use Rattle.std.specs.List.{AllByRecursion}
use Rattle.rv_base.specs.declared.outside.Source.{Ghosts as SourceGhosts}
use Rattle.rv_base.specs.declared.outside.Sink.{Ghosts as SinkGhosts}
use Rattle.rv_words.specs.declared.serve_options.ServeOptions.{ServeOptions}
use Rattle.rv_accounts.specs.File.{AccountsServed}
use Rattle.rv_keeper.specs.declared.keeper.Keeper.{Ghosts}
use Rattle.rv_keeper.specs.declared.place.Place.{Ghosts as PlaceGhosts}
use Rattle.rv_history.specs.Clients.{ClientPull, IsClient}
use Rattle.rv_history.specs.Properties.{IsEntered}
use Rattle.rv_history.specs.Served.{IsSound}
use Rattle.rv_desk.specs.DeskStates.{DeskState, served}
use Rattle.rv_answering.specs.declared.answer.Answer.{Answer}
use Rattle.rv_answering.specs.declared.answer.Answer.TheVariants.{Pushed, Pulled}
use Rattle.rv_answering.specs.declared.request.Request.TheVariants.{Push, Pull}
use Rattle.rv_answering.specs.Requests.{Parsed}
use Rattle.rv_net.specs.declared.listen.Listen.{Ghosts as ListenGhosts}
use Rattle.rv_net.specs.declared.net.Net.{Ghosts as NetGhosts}
use Rattle.rv_net.specs.declared.poke_listen.PokeListen.{Ghosts as PokeListenGhosts}
use Rattle.rv_poke.specs.declared.poke_link.PokeLink.{Ghosts as LinkGhosts}
use Rattle.rv_cli.specs.Change.{change}
use Rattle.rv_cli.specs.Headline.{Begins, IsLawfulRun, Leaves, AnswersChange, AnswersTrouble}
use Rattle.rv_cli.specs.Serving.{ShowsIn}
use Rattle.rv_cli.specs.Running.{network}
use Rattle.rv_cli.specs.ServePromise.{WasServed}
use Rattle.rv_laws.specs.Listeners.{FollowsIn, ReadsIn, Together, turns_in}
use Rattle.rv_wire.specs.declared.push.Push as pushes

-- A run of `serve` on a store of a place and over a net, which are these before and these after.
module _ {P N K L W I O C : Type 0} (place : PlaceGhosts P K) (G : Ghosts K) (net : NetGhosts N L W I O C) (listen : ListenGhosts L I O) (source : SourceGhosts I) (sink : SinkGhosts O) where
  -- these listeners were served side by side
  abbrev pub AreServed : AccountsServed → DeskState K → List L → DeskState K → List L → Type 0
  AreServed accounts = Together G listen source sink accounts

  -- The listeners of the net were served side by side at a desk, which was opened with the book that the store kept, and closed with the
  -- one that it keeps. Where the place tells, so did the desk's keeper to the end. Where the net tells, they are the first that it had to
  -- give, and came back to it.
  pub record ServeRun (old new : P) (before after : N) (store : List ℕ) (options : ServeOptions) : Type 0 where
    pub accounts : AccountsServed
    pub opened : DeskState K
    pub now : DeskState K
    pub givens : List L
    pub backs : List L
    pub begins : Begins (change place store old new) (served G.faults opened)
    pub together : AreServed accounts opened givens now backs
    pub sound : IsSound (served G.faults now)
    pub told : place.tells new → G.tells now.keeper
    pub leaves : Leaves (change place store old new) (served G.faults now)
    pub count : length givens ≡ options.workers
    pub first : net.tells after → (net.listeners before).to_give ≡ givens ++ (net.listeners after).to_give
    pub last : net.tells after → (net.listeners after).came_back ≡ (net.listeners before).came_back ++ backs

  -- At status 0 and 7 there was such a run.
  abbrev pub ServesAreRuns : {Out : Type 0} → PokeListenGhosts W C → LinkGhosts C → SinkGhosts Out → Type 0
  ServesAreRuns {Out} pokes link output = (old new : P) (before after : N) (store : List ℕ) (options : ServeOptions) (out out' : Out) (status : ℕ)
      → WasServed place G (network net listen source sink pokes link) output store options old new before after out out' status → (status ≡ 0) ⊎ (status ≡ 7) → ServeRun old new before after store options

  -- something holds of all such runs
  abbrev pub OfAllServes : ((old new : P) (before after : N) (store : List ℕ) (options : ServeOptions) → ServeRun old new before after store options → Type 0) → Type 0
  OfAllServes Holds = (old new : P) (before after : N) (store : List ℕ) (options : ServeOptions) (run : ServeRun old new before after store options) → Holds old new before after store options run

  -- all that was asked over the connections, with its answers
  abbrev pub all_turns : (old new : P) (before after : N) (store : List ℕ) (options : ServeOptions) → ServeRun old new before after store options → List (Parsed × Answer)
  all_turns old new before after store options run =
      turns_in G listen source sink run.accounts run.opened run.givens run.now run.backs run.together

  -- The book at the end is lawful and goes on from the first, each client's acts have the ids 1, 2, 3 and so on, and orders rise.
  abbrev pub ServeBooksAreLawful : Type 0
  ServeBooksAreLawful = OfAllServes (λ old new before after store options run. IsLawfulRun (Unit {0}) (served G.faults run.opened) (served G.faults run.now))

  -- Each pull that was answered shows what its user sees at a point of that book.
  abbrev pub ServePullsAreShown : Type 0
  ServePullsAreShown = OfAllServes (λ old new before after store options run. AllByRecursion (ShowsIn run.now.book) (all_turns old new before after store options run))

  -- Where the place's count of faults stayed below its last value, no answer tells a trouble with what keeps the book.
  abbrev pub ServeTroublesHaveCauses : Type 0
  ServeTroublesHaveCauses = OfAllServes (λ old new before after store options run. place.faults new ≡ place.faults old → place.faults old < 2 ^ 64 - 1
      → AllByRecursion (λ turn. AnswersTrouble (Some turn.1) → ⊥) (all_turns old new before after store options run))

  -- Where the place tells, no answer says that another changed what is kept.
  abbrev pub ServeKeepersStay : Type 0
  ServeKeepersStay = OfAllServes (λ old new before after store options run. place.tells new → AllByRecursion (λ turn. AnswersChange (Some turn.1) → ⊥) (all_turns old new before after store options run))

  -- Each mutation of a push that was not refused stands in the book at the end; but for an id of 0, which is skipped and stands nowhere.
  abbrev pub ServePushesStand : Type 0
  ServePushesStand = OfAllServes (λ old new before after store options run. (user : List ℕ) (push : pushes.Push) → Contains (all_turns old new before after store options run) (Ok (Push user push), Pushed)
      → AllByRecursion (λ m. 1 ≤ m.id → IsEntered (record { user = user; group = push.group }) run.now.book m) push.mutations)

  -- A client that begins with nothing, and whose pulls were answered over any of the connections, holds after each of them what its user
  -- sees at a point of the book at the end.
  abbrev pub ServeClientsFollow : Type 0
  ServeClientsFollow = OfAllServes (λ old new before after store options run. (user : List ℕ) (pulls : List ClientPull) → IsClient pulls
      → AllByRecursion (λ pull. Contains (all_turns old new before after store options run) (Ok (Pull user pull.request), Pulled pull.reply)) pulls → AllByRecursion (FollowsIn G run.now.book user) pulls)

  -- What one worker answered to a push each worker reads that answers a pull at the book as it was then, or at a longer one.
  abbrev pub ServeWritesAreRead : Type 0
  ServeWritesAreRead = OfAllServes (λ old new before after store options run. (user reader : List ℕ) (push : pushes.Push) (pull : ClientPull) → Contains (all_turns old new before after store options run) (Ok (Push user push), Pushed)
      → Contains (all_turns old new before after store options run) (Ok (Pull reader pull.request), Pulled pull.reply) → ReadsIn G run.now.book user reader push pull)

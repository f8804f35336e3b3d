-- What `run` promises of `serve`. The accounts file is read, then the store is opened, then the net is listened to; the listeners are
-- served side by side, those of connections each by the turns of a seat, and those of links by the looks of one; and at the end the length
-- of the book is written.
use Rattle.std.specs.Prelude.{ℕ, ◌≡◌, ◌-◌, ◌^◌, ◌<◌, ◌⊎◌, List, ◌∷◌, ◌++◌, [], length, Some, Result, Ok, Err, codes, decimal}
use Rattle.std.specs.List.{flat_map, AllByRecursion}
use Rattle.std.specs.Io.KnownBytes.{Appends}
use Rattle.rv_base.specs.Causes.{Rose}
use Rattle.rv_base.specs.Outside.{OutputState}
use Rattle.rv_base.specs.declared.outside.Source.{Ghosts as SourceGhosts}
use Rattle.rv_base.specs.declared.outside.Sink.{Ghosts as SinkGhosts}
use Rattle.rv_base.specs.Writes.{AppendsFront}
use Rattle.rv_keeper.specs.declared.keeper.Keeper.{Ghosts}
use Rattle.rv_keeper.specs.declared.place.Place.{Ghosts as PlaceGhosts}
use Rattle.rv_keeper.specs.Stores.{PlaceStays}
use Rattle.rv_accounts.specs.File.{AccountsServed, file_in}
use Rattle.rv_accounts.specs.declared.fault.AccountsFault.{AccountsFault}
use Rattle.rv_book.specs.Book.{Book, size, Extends}
use Rattle.rv_history.specs.Served.{Served, IsSound}
use Rattle.rv_desk.specs.DeskStates.{DeskState, served}
use Rattle.rv_answering.specs.declared.answer.Answer.{Answer}
use Rattle.rv_answering.specs.declared.answer.Answer.TheVariants.{Pulled}
use Rattle.rv_answering.specs.Requests.{Parsed}
use Rattle.rv_answering.specs.Steps.{Handles}
use Rattle.rv_net.specs.Giving.{Giving}
use Rattle.rv_net.specs.declared.listen.Listen.{Ghosts as ListenGhosts}
use Rattle.rv_net.specs.declared.wanted.Wanted.{Wanted}
use Rattle.rv_words.specs.declared.serve_options.ServeOptions.{ServeOptions}
use Rattle.rv_room.specs.declared.view.SeatView.{SeatView}
use Rattle.rv_room.specs.Views.{newcomer}
use Rattle.rv_serve.specs.Properties.{turns_of}
use Rattle.rv_workers.specs.Serving.{EachServes, IsServed, ServesAtDesk, ServesTogether}
use Rattle.rv_cli.specs.declared.ending.Ending.{Ending}
use Rattle.rv_cli.specs.declared.serve_ending.ServeEnding.{ServeEnding}
use Rattle.rv_cli.specs.declared.serve_ending.ServeEnding.TheVariants.{Done, BadAccounts, TwiceAccounts, NotOpened, Net, Memory, Write}
use Rattle.rv_cli.specs.Change.{change}
use Rattle.rv_cli.specs.Running.{Network}
use Rattle.rv_cli.specs.Texts.{serve_status, serve_text}
use Rattle.rv_cli.specs.Headline.{Begins, IsLawfulRun, IsLeftAs, IsNotOpened, Leaves, ShowsAt, AnswersChange, AnswersTrouble, WritesOnly}
use Rattle.rv_turns.specs.declared.pull.PullReply.{PullReply}
use Rattle.rv_room.specs.SeatTurns.{IsSeatTurn}
use Rattle.rv_accounts.specs.declared.fault.AccountsFault.TheVariants as accounts
use Rattle.rv_cli.specs.declared.ending.Ending.TheVariants as endings

-- ---- The accounts file. The place was this before the run and is this after it.

module _ {P K : Type 0} (place : PlaceGhosts P K) (name : List ℕ) (old new : P) where
  -- The accounts file of the name was read, and says this. Where the place tells, the file has these bytes; and where the place knows its
  -- files besides, there is such a file.
  pub record FileSays (said : Result AccountsServed AccountsFault) : Type 0 where
    pub bytes : List ℕ
    pub read : place.tells new → (file : List ℕ) → place.accounts old name file → file ≡ bytes
    pub there : place.knows_files → place.tells new → place.accounts old name bytes
    pub says : file_in bytes ≡ said

  -- Why there are no accounts, by the place's counts of faults: the first thing that is wrong with the file; or the file could not be
  -- read; or memory was refused.
  abbrev pub HasNoAccounts : ServeEnding → Type 0
  HasNoAccounts (BadAccounts number) = FileSays (Err (accounts.BadFile number)) × (place.faults new ≡ place.faults old)
  HasNoAccounts (TwiceAccounts number) = FileSays (Err (accounts.Twice number)) × (place.faults new ≡ place.faults old)
  HasNoAccounts (NotOpened endings.Keeper) = Rose (place.faults old) (place.faults new)
  HasNoAccounts (NotOpened endings.Memory) = Unit {0}
  HasNoAccounts ending = ⊥

-- ---- The net.

-- Why nothing was served, by the net's counts of faults.
abbrev pub IsNoNet : ℕ → ℕ → ServeEnding → Type 0
IsNoNet before after Net = Rose before after
IsNoNet before after Memory = Unit {0}
IsNoNet before after ending = ⊥

-- what the options ask a net for: the listeners of connections, and those of links
abbrev pub listeners_wanted : ServeOptions → Wanted
listeners_wanted options = record { port = options.port; count = options.workers; most = options.connections }

abbrev pub pokes_wanted : ServeOptions → Wanted
pokes_wanted options = record { port = options.poke_port; count = options.pokes; most = options.connections }

-- As many listeners of one kind were given as are wanted. Where the net tells, it was asked for them, if there are to be some, and so does
-- each of them; they were the first that the net had to give, and they came back, in order.
pub record GivenBack {L : Type 0} (Told : Type 0) (tells : L → Type 0) (wanted : Wanted) (old new : Giving L) (given returned : List L) : Type 0 where
  pub count : length given ≡ wanted.count
  pub asked : Told → 0 < wanted.count → new.wanted ≡ Some wanted
  pub told : Told → AllByRecursion tells returned
  pub first : Told → old.to_give ≡ given ++ new.to_give
  pub last : Told → new.came_back ≡ old.came_back ++ returned

-- Listeners of both kinds were given, were served, and came back.
pub record NetServes {L P : Type 0} (Told : Type 0) (tells : L → Type 0) (poke_tells : P → Type 0) (Serves : List L → List P → List L → List P → Type 0) (options : ServeOptions) (listeners listeners' : Giving L) (pokes pokes' : Giving P) : Type 0 where
  pub given : List L
  pub returned : List L
  pub poked : List P
  pub poked_back : List P
  pub serves : Serves given poked returned poked_back
  pub conns : GivenBack Told tells (listeners_wanted options) listeners listeners' given returned
  pub links : GivenBack Told poke_tells (pokes_wanted options) pokes pokes' poked poked_back

-- The net was served at a desk: its listeners side by side, as many of each kind as the options say.
module _ {K : Type 0} (keeper : Ghosts K) (n : Network) where
  abbrev pub IsNetServed : ServeOptions → n.Net → n.Net → AccountsServed → DeskState K → DeskState K → Type 0
  IsNetServed options before after accounts first now =
      NetServes (n.net.tells after) n.listen.tells n.pokes.tells
      (λ given poked returned poked_back. ServesAtDesk keeper n.listen n.source n.sink n.pokes n.link accounts first given poked now returned poked_back)
      options (n.net.listeners before) (n.net.listeners after) (n.net.pokes before) (n.net.pokes after)

-- Nothing was served: the listeners of one kind that were given, if some were, came back as they were.
pub record Unserved {L : Type 0} (old new : Giving L) : Type 0 where
  pub given : List L
  pub first : old.to_give ≡ given ++ new.to_give
  pub last : new.came_back ≡ old.came_back ++ given

-- ---- The length of the book at the end.

abbrev pub entries_text : Book → List ℕ
entries_text book = codes "entries " ++ (decimal (size book) ++ codes "\n")

-- all of it; or a front of it, and a write failed
abbrev pub WritesEntries : Book → OutputState → OutputState → ServeEnding → Type 0
WritesEntries book old new Done = Appends old.written new.written (entries_text book) × (new.faults ≡ old.faults)
WritesEntries book old new Write = AppendsFront old.written new.written (entries_text book) × Rose old.faults new.faults
WritesEntries book old new ending = ⊥

-- ---- What becomes of a run. The net is served so, with these accounts, between opening a desk and closing it.

module _ {P K N : Type 0} (place : PlaceGhosts P K) (G : Ghosts K) (faults : N → ℕ) (store name : List ℕ) (old new : P) (net net' : N) where
  -- The store was not opened: where the place tells, all its stores and files are as they were, and none was made. The net was not asked.
  pub record HasRefused (output output' : OutputState) (ending : ServeEnding) : Type 0 where
    pub why : HasNoAccounts place name old new ending
    pub stays : place.tells new → PlaceStays place.holds place.may_leave place.is_out place.has place.accounts old new
    pub net_stays : net' ≡ net
    pub text : WritesOnly output output' (serve_text ending)

  -- The store did not open, and holds what it held. The net was not asked.
  pub record HasNoStore (output output' : OutputState) (ending : ServeEnding) : Type 0 where
    pub other : Ending
    pub is : ending ≡ NotOpened other
    pub accounts : AccountsServed
    pub says : FileSays place name old new (Ok accounts)
    pub why : IsNotOpened (change place store old new) other
    pub left : IsLeftAs (change place store old new)
    pub net_stays : net' ≡ net
    pub text : WritesOnly output output' (serve_text ending)

  -- nothing was listened to, and the store keeps its book
  pub record HasNoNet (output output' : OutputState) (ending : ServeEnding) : Type 0 where
    pub accounts : AccountsServed
    pub says : FileSays place name old new (Ok accounts)
    pub first : Served
    pub begins : Begins (change place store old new) first
    pub why : IsNoNet (faults net) (faults net') ending
    pub leaves : Leaves (change place store old new) first
    pub text : WritesOnly output output' (serve_text ending)

  -- The net was served, and the store keeps the book that is left, which is lawful. Where the place tells, so did the desk's keeper to
  -- the end.
  pub record HasServed (Serves : AccountsServed → DeskState K → DeskState K → Type 0) (output output' : OutputState) (ending : ServeEnding) : Type 0 where
    pub accounts : AccountsServed
    pub says : FileSays place name old new (Ok accounts)
    pub first : DeskState K
    pub now : DeskState K
    pub begins : Begins (change place store old new) (served G.faults first)
    pub serves : Serves accounts first now
    pub sound : IsSound (served G.faults now)
    pub told : place.tells new → G.tells now.keeper
    pub leaves : Leaves (change place store old new) (served G.faults now)
    pub entries : WritesEntries now.book output output' ending

  -- the status is that of an ending, and the run ended so
  abbrev pub RunsServe : (AccountsServed → DeskState K → DeskState K → Type 0) → OutputState → OutputState → ℕ → Type 0
  RunsServe Serves output output' status = (ending : ServeEnding) × (status ≡ serve_status ending)
      × (HasRefused output output' ending ⊎ HasNoStore output output' ending ⊎ HasNoNet output output' ending ⊎ HasServed Serves output output' ending)

-- ---- What follows.

-- A turn of a seat that is closed: what was asked, with its answer. The seat's book as the turn ended goes on from its book as the turn
-- began, and the book at the end goes on from that one.
pub record StandsIn {K : Type 0} (G : Ghosts K) (book : Book) (turn : Parsed × Answer) : Type 0 where
  pub old : SeatView K
  pub new : SeatView K
  pub step : Handles (IsSeatTurn G) old turn.0 turn.1 new
  pub grows : Extends new.seen old.seen
  pub within : Extends book new.seen

-- A pull that was answered shows what its user sees at a point of the book at the end.
pub record IsShownIn (book : Book) (asked : Parsed) (reply : PullReply) : Type 0 where
  pub point : Book
  pub new : Book
  pub shows : ShowsAt asked reply point new
  pub here : Extends new point
  pub within : Extends book new

-- where the answer is a pull's
abbrev pub ShowsIn : Book → Parsed × Answer → Type 0
ShowsIn book (asked, Pulled reply) = IsShownIn book asked reply
ShowsIn book (asked, answer) = Unit {0}

module _ {K L I O : Type 0} (G : Ghosts K) (listen : ListenGhosts L I O) (source : SourceGhosts I) (sink : SinkGhosts O) (accounts : AccountsServed) where
  -- a listener is served, by its seat
  abbrev pub Serves : SeatView K → L → SeatView K → L → Type 0
  Serves = IsServed G listen source sink accounts

  -- All that was asked over the connections of the listeners, with its answers, listener by listener.
  abbrev pub turns_served : (first : SeatView K) (givens : List L) (lasts : List (SeatView K)) (backs : List L) → EachServes Serves first givens lasts backs → List (Parsed × Answer)
  turns_served first (given ∷ givens) (last ∷ lasts) (back ∷ backs) (is, each) = turns_of accounts (flat_map (λ conn. conn.answers) is.serves.conns) ++ turns_served first givens lasts backs each
  turns_served first [] lasts backs each = []
  turns_served first (given ∷ givens) [] backs each = []
  turns_served first (given ∷ givens) (last ∷ lasts) [] each = []

  -- something holds of all that was asked, where the desk was opened as the first and closed as the last
  abbrev pub OfAllServed : (DeskState K → DeskState K → Parsed × Answer → Type 0) → Type 0
  OfAllServed Holds = (opened now : DeskState K) (givens backs : List L) (together : ServesTogether G Serves opened givens now backs)
      → AllByRecursion (Holds opened now) (turns_served (newcomer 1 opened) givens together.views backs together.serves)

  -- Each turn stands in the book at the end.
  abbrev pub TurnsStand : Type 0
  TurnsStand = OfAllServed (λ opened now turn. StandsIn G now.book turn)

  -- The patch of each pull, applied to the view that its cookie names, gives exactly what the user sees at that point of the book.
  abbrev pub ServedPullsAreShown : Type 0
  ServedPullsAreShown = OfAllServed (λ opened now turn. ShowsIn now.book turn)

  -- Where no fault of what keeps the book rose, and where it failed no more from the beginning on, no answer tells a trouble with it.
  abbrev pub ServedTroublesHaveCauses : Type 0
  ServedTroublesHaveCauses = OfAllServed (λ opened now turn. ((G.faults now.keeper ≡ G.faults opened.keeper) × (G.faults opened.keeper < 2 ^ 64 - 1)) ⊎ G.fails_no_more opened.keeper → AnswersTrouble (Some turn.1) → ⊥)

  -- Where the keeper tells as the room is closed, no answer says that another changed what is kept.
  abbrev pub ServedKeepersStay : Type 0
  ServedKeepersStay = OfAllServed (λ opened now turn. G.tells now.keeper → AnswersChange (Some turn.1) → ⊥)

  -- The book at the end goes on from the first, each client's acts in it have the ids 1, 2, 3 and so on, and the orders of each group's
  -- looks rise.
  abbrev pub ServedBooksAreLawful : Type 0
  ServedBooksAreLawful = (opened now : DeskState K) (givens backs : List L) → ServesTogether G Serves opened givens now backs → IsSound (served G.faults now) → IsLawfulRun (Unit {0}) (served G.faults opened) (served G.faults now)

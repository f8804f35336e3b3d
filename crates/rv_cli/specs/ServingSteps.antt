-- The steps of `serve`: the accounts, the net, and what is written at the end, before they are put together.
use Rattle.std.specs.Prelude.{ℕ, ◌≡◌, ◌+◌, ◌<◌, ◌⊎◌, List, ◌++◌, length, Option, Some, Result, Ok, Err, codes, decimal}
use Rattle.std.specs.Io.KnownBytes.{Appends}
use Rattle.rv_base.specs.Causes.{Rose}
use Rattle.rv_base.specs.Outside.{OutputState}
use Rattle.rv_base.specs.Writes.{AppendsFront}
use Rattle.rv_keeper.specs.Stores.{PlaceStays}
use Rattle.rv_accounts.specs.File.{AccountsServed, file_in}
use Rattle.rv_accounts.specs.declared.fault.AccountsFault.TheVariants as accounts
use Rattle.rv_cli.specs.declared.ending.Ending.TheVariants as endings
use Rattle.rv_cli.specs.declared.serve_ending.ServeEnding.{ServeEnding}
use Rattle.rv_cli.specs.declared.serve_ending.ServeEnding.TheVariants.{Done, BadAccounts, TwiceAccounts, NotOpened, Net, Memory, Write}
use Rattle.rv_cli.specs.Texts.{serve_text}
use Rattle.rv_cli.specs.Headline.{WritesOnly}
use Rattle.rv_desk.specs.DeskStates.{DeskState}
use Rattle.rv_cli.specs.Running.{network}
use Rattle.rv_cli.specs.Serving.{FileSays, HasNoAccounts, IsNetServed, pokes_wanted}
use Rattle.rv_base.specs.declared.outside.Source.{Ghosts as SourceGhosts}
use Rattle.rv_base.specs.declared.outside.Sink.{Ghosts as SinkGhosts}
use Rattle.rv_base.specs.declared.fault.Fault.{Fault}
use Rattle.rv_base.specs.declared.fault.Fault.TheVariants as outside
use Rattle.rv_keeper.specs.declared.keeper.Keeper.{Ghosts as KeeperGhosts}
use Rattle.rv_keeper.specs.declared.place.Place.{Ghosts as PlaceGhosts}
use Rattle.rv_net.specs.Giving.{Giving}
use Rattle.rv_net.specs.declared.poke_listen.PokeListen.{Ghosts as PokeListenGhosts}
use Rattle.rv_net.specs.declared.wanted.Wanted.{Wanted}
use Rattle.rv_poke.specs.declared.poke_link.PokeLink.{Ghosts as LinkGhosts}
use Rattle.rv_words.specs.declared.serve_options.ServeOptions.{ServeOptions}
use Rattle.rv_net.specs.declared.listen.Listen.{Ghosts as ListenGhosts}
use Rattle.rv_net.specs.declared.net.Net.{Ghosts as NetGhosts}

-- what an accounts file of these bytes says, as it is told
abbrev pub ReadsAccounts : List ℕ → Result AccountsServed ServeEnding → Type 0
ReadsAccounts bytes (Ok served) = file_in bytes ≡ Ok served
ReadsAccounts bytes (Err (BadAccounts number)) = file_in bytes ≡ Err (accounts.BadFile number)
ReadsAccounts bytes (Err (TwiceAccounts number)) = file_in bytes ≡ Err (accounts.Twice number)
ReadsAccounts bytes (Err (NotOpened endings.Memory)) = Unit {0}
ReadsAccounts bytes (Err ending) = ⊥

-- the accounts of a file, or why there are none
abbrev pub GivesAccounts : {P K : Type 0} → PlaceGhosts P K → List ℕ → P → P → Result AccountsServed ServeEnding → Type 0
GivesAccounts place name old new (Ok served) = FileSays place name old new (Ok served) × (place.faults new ≡ place.faults old)
GivesAccounts place name old new (Err ending) = HasNoAccounts place name old new ending

-- the file was read, and the stores and files stay as they are
pub record AccountsRead {P K : Type 0} (place : PlaceGhosts P K) (name : List ℕ) (old : P) (result : Result AccountsServed ServeEnding) (new : P) : Type 0 where
  pub told : place.tells new → place.tells old
  pub stays : place.tells new → PlaceStays place.holds place.may_leave place.is_out place.has place.accounts old new
  pub gives_accounts : GivesAccounts place name old new result

-- Of one kind of listeners these were given, the first that were to be, and none has come back.
pub record HasGiven {L : Type 0} (old new : Giving L) (given : List L) : Type 0 where
  pub first : old.to_give ≡ given ++ new.to_give
  pub out : new.out ≡ old.out + length given
  pub back : new.came_back ≡ old.came_back

-- What a net was asked for of listeners for links: nothing where there is to be none, and else what the options say.
abbrev pub WantsPokes : ServeOptions → Option Wanted → Option Wanted → Type 0
WantsPokes options before now = ((options.pokes ≡ 0) × (now ≡ before)) ⊎ ((0 < options.pokes) × (now ≡ Some (pokes_wanted options)))

-- The same, or nothing, since those of connections could not be had.
abbrev pub MayWantPokes : ServeOptions → Option Wanted → Option Wanted → Type 0
MayWantPokes options before now = (now ≡ before) ⊎ ((0 < options.pokes) × (now ≡ Some (pokes_wanted options)))

-- The net was served at a desk, or nothing was served and the desk is as it was.
abbrev pub NetResult : {K : Type 0} → Type 0 → (K → Type 0) → ℕ → ℕ → DeskState K → DeskState K → Result (Unit {0}) Fault → Type 0
NetResult Served kept_tells before after old new (Ok done) = Served × (kept_tells new.keeper → kept_tells old.keeper) × (after ≡ before)
NetResult Served kept_tells before after old new (Err outside.Failed) = (new ≡ old) × Rose before after
NetResult Served kept_tells before after old new (Err outside.Memory) = new ≡ old

-- all of a count and its label was written, or a front, and a write failed
abbrev pub WritesCount : List ℕ → OutputState → OutputState → ServeEnding → Type 0
WritesCount text old new Done = Appends old.written new.written text × (new.faults ≡ old.faults)
WritesCount text old new Write = AppendsFront old.written new.written text × Rose old.faults new.faults
WritesCount text old new ending = ⊥

abbrev pub count_text : ℕ → List ℕ
count_text entries = codes "entries " ++ (decimal entries ++ codes "\n")

-- what is told of the net that served, or did not
abbrev pub WritesServed : Result (Unit {0}) Fault → ℕ → OutputState → OutputState → ServeEnding → Type 0
WritesServed (Ok done) entries old new ending = WritesCount (count_text entries) old new ending
WritesServed (Err outside.Failed) entries old new ending = (ending ≡ Net) × WritesOnly old new (serve_text Net)
WritesServed (Err outside.Memory) entries old new ending = (ending ≡ Memory) × WritesOnly old new (serve_text Memory)

-- The listeners of a net were served side by side at a desk, with these accounts, as the options say.
module _ {K N L P I O C : Type 0} (keeper : KeeperGhosts K) (net : NetGhosts N L P I O C) (listen : ListenGhosts L I O) (source : SourceGhosts I) (sink : SinkGhosts O) (pokes : PokeListenGhosts P C) (link : LinkGhosts C) where
  abbrev pub ServesNet : AccountsServed → ServeOptions → N → N → DeskState K → DeskState K → Result (Unit {0}) Fault → Type 0
  ServesNet accounts options old new desk now result =
      NetResult (IsNetServed keeper (network net listen source sink pokes link) options old new accounts desk now) keeper.tells (net.faults old) (net.faults new) desk now result

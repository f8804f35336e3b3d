-- What a poke session does, from its first message to its end.
use Rattle.std.specs.Prelude.{◌≡◌, ℕ, suc, ◌+◌, ◌<◌, ◌≤◌, ◌⊎◌, max, nat_lt, if◌then◌else◌, length, List, [], ◌∷◌, ◌++◌, Option, Some, None}
use Rattle.rv_base.specs.Causes.{Rose}
use Rattle.rv_base.specs.Outside.{counted}
use Rattle.rv_accounts.specs.declared.account.Account.{Account}
use Rattle.rv_accounts.specs.File.{user_in}
use Rattle.rv_poke.specs.declared.first.First.{First}
use Rattle.rv_poke.specs.declared.first.First.TheVariants.{Text, Other}
use Rattle.rv_poke.specs.declared.sent.Sent.{Sent}
use Rattle.rv_poke.specs.declared.sent.Sent.TheVariants.{Poke, Ping, Close}
use Rattle.rv_poke.specs.declared.poke_end.PokeEnd.{PokeEnd}
use Rattle.rv_poke.specs.declared.poke_end.PokeEnd.TheVariants.{Done, Denied, LinkFault, Memory}
use Rattle.rv_poke.specs.Bells.{BellState, counted_by}
use Rattle.rv_poke.specs.Links.{LinkState, IsIdle, IsSilent, Sends, WasComing}

-- The user whose key the first message is: it is a text, and an account has exactly this key.
abbrev pub user_named : List Account → First → Option (List ℕ)
user_named accounts (Text key) = user_in key accounts
user_named accounts Other = None

-- What a session does at its start and after each wait: it looks, and this is the mark; or, where the bell was silent, it pings its client.
pub data Deed : Type 0 where
  look : ℕ → Deed
  ping : Deed

-- the marks of the looks among deeds
abbrev pub marks_of : List Deed → List ℕ
marks_of [] = []
marks_of (look mark ∷ more) = mark ∷ marks_of more
marks_of (ping ∷ more) = marks_of more

-- how many of them are pings
abbrev pub pings_of : List Deed → ℕ
pings_of [] = 0
pings_of (look mark ∷ more) = pings_of more
pings_of (ping ∷ more) = suc (pings_of more)

-- what was told last, after a deed: a look tells its mark where that is above what was told
abbrev pub told_by : ℕ → Deed → ℕ
told_by told (look mark) = max told mark
told_by told ping = told

-- a look sends a poke where its mark is above what was told, and else nothing
abbrev pub sent_at : ℕ → Deed → List Sent
sent_at told (look mark) = if nat_lt told mark then Poke ∷ [] else []
sent_at told ping = Ping ∷ []

-- how many pokes a deed sends
abbrev pub poke_at : ℕ → Deed → ℕ
poke_at told (look mark) = if nat_lt told mark then 1 else 0
poke_at told ping = 0

-- a look that sends no poke looks for the client
abbrev pub quiet_at : ℕ → Deed → ℕ
quiet_at told (look mark) = if nat_lt told mark then 0 else 1
quiet_at told ping = 0

-- what deeds send, how many pokes that has, and how many of them look for the client
abbrev pub sent_by : ℕ → List Deed → List Sent
sent_by told [] = []
sent_by told (deed ∷ more) = sent_at told deed ++ sent_by (told_by told deed) more

abbrev pub pokes_of : ℕ → List Deed → ℕ
pokes_of told [] = 0
pokes_of told (deed ∷ more) = poke_at told deed + pokes_of (told_by told deed) more

abbrev pub quiet_of : ℕ → List Deed → ℕ
quiet_of told [] = 0
quiet_of told (deed ∷ more) = quiet_at told deed + quiet_of (told_by told deed) more

-- the first deed is a look, and the others come after waits
abbrev pub IsBegun : List Deed → Type 0
IsBegun [] = ⊥
IsBegun (look mark ∷ more) = Unit {0}
IsBegun (ping ∷ more) = ⊥

abbrev pub rest_of : List Deed → List Deed
rest_of [] = []
rest_of (first ∷ more) = more

-- What a session works with, as it is seen: who tells marks, its link and its bell.
pub record SessionState (S : Type 0) : Type 0 where
  pub teller : S
  pub link : LinkState
  pub bell : BellState

-- these three together
abbrev pub session_state : {S : Type 0} → S → LinkState → BellState → SessionState S
session_state teller link bell = record { teller = teller; link = link; bell = bell }

-- The first message was taken, and is this one.
abbrev pub WasFirst : LinkState → LinkState → First → Type 0
WasFirst old new first = WasComing old.coming first × (new.coming ≡ None)

-- The link was closed with this code and nothing else was sent; or that failed, and nothing was sent.
abbrev pub Closes : ℕ → LinkState → LinkState → Type 0
Closes code old new = (Sends old.sent (Close code ∷ []) new.sent × (new.faults ≡ old.faults)) ⊎ (IsSilent old.sent new.sent × Rose old.faults new.faults)

-- After so many pokes and waits a session is over as its bell says so, before both limits; or it has sent 10,000 pokes or has waited
-- 1,000,000 times, and nothing said that all is over.
abbrev pub Stops : ℕ → ℕ → BellState → BellState → Type 0
Stops pokes waits old new =
    ((new.overs ≡ counted old.overs) × (pokes < 10000) × (waits < 1000000))
    ⊎ ((new.overs ≡ old.overs) × ((pokes ≡ 10000) ⊎ (waits ≡ 1000000)))

-- The link failed exactly at the end of this name, but that the close of a link that is denied may fail too.
abbrev pub EndCause : LinkState → LinkState → PokeEnd → Type 0
EndCause old new (Done pokes) = new.faults ≡ old.faults
EndCause old new Denied = old.faults ≤ new.faults
EndCause old new LinkFault = (old.faults ≤ new.faults) × Rose old.faults new.faults
EndCause old new Memory = new.faults ≡ old.faults

module _ {S : Type 0} (marks : S → List ℕ → ℕ → S → Type 0) where
  -- looks at the marks of a user, one after another, each from the state that the one before it left
  abbrev pub Looks : List ℕ → S → List ℕ → S → Type 0
  Looks user old [] new = new ≡ old
  Looks user old (mark ∷ more) new = (mid : S) × marks old user mark mid × Looks user mid more new

  -- A session of a user has done the deeds `before` and then this last one: the first at the start, each other one after a wait, a look
  -- where the bell rang and a ping where it was silent. Those before the last one sent fewer than 10,000 pokes, and there were at most
  -- 1,000,000 waits. The deeds `well` ended well: just what they send was sent, and the client was there where they looked for it.
  pub record Watched (user : List ℕ) (old new : SessionState S) (before : List Deed) (last : Deed) (well : List Deed) : Type 0 where
    pub begun : IsBegun (before ++ last ∷ [])
    pub looks : Looks user old.teller (marks_of (before ++ last ∷ [])) new.teller
    pub rung : new.bell.rungs ≡ counted_by (length (marks_of (rest_of (before ++ last ∷ [])))) old.bell.rungs
    pub silent : new.bell.quiets ≡ counted_by (pings_of (rest_of (before ++ last ∷ []))) old.bell.quiets
    pub few : pokes_of 0 before < 10000
    pub waits : length before ≤ 1000000
    pub said : Sends old.link.sent (sent_by 0 well) new.link.sent
    pub found : new.link.found ≡ counted_by (quiet_of 0 well) old.link.found

  -- How a session of a user ends. `Done`: all of its deeds ended well, with so many pokes, and all is over or a limit is reached. `LinkFault`:
  -- the last one didn't, so its poke or its ping could not be sent, or the client was not there; and nothing said that all is over.
  abbrev pub Watches : List ℕ → SessionState S → SessionState S → PokeEnd → Type 0
  Watches user old new (Done pokes) =
      (before : List Deed) × (last : Deed) × (pokes ≡ pokes_of 0 (before ++ last ∷ [])) × Watched user old new before last (before ++ last ∷ [])
      × Stops pokes (length before) old.bell new.bell
  Watches user old new LinkFault = (before : List Deed) × (last : Deed) × Watched user old new before last before × (new.bell.overs ≡ old.bell.overs)
  Watches user old new Denied = ⊥
  Watches user old new Memory = ⊥

  -- No look was made and the bell was not asked.
  abbrev pub IsUnwatched : SessionState S → SessionState S → Type 0
  IsUnwatched old new = (new.teller ≡ old.teller) × (new.bell ≡ old.bell)

  -- Nothing was done.
  abbrev pub IsUnbegun : SessionState S → SessionState S → Type 0
  IsUnbegun old new = IsUnwatched old new × IsIdle old.link new.link

  -- the first message was taken and names this user, whose session ends so
  abbrev pub WatchesNamed : List Account → SessionState S → SessionState S → PokeEnd → Type 0
  WatchesNamed accounts old new end =
      (first : First) × (user : List ℕ) × WasFirst old.link new.link first × (user_named accounts first ≡ Some user) × Watches user old new end

  -- How a session ends. Its first message names a user, who is watched; or it names none, and the link is closed with 1008. Where no
  -- message could be taken nothing was done.
  abbrev pub Session : List Account → SessionState S → SessionState S → PokeEnd → Type 0
  Session accounts old new (Done pokes) = WatchesNamed accounts old new (Done pokes)
  Session accounts old new LinkFault = IsUnbegun old new ⊎ WatchesNamed accounts old new LinkFault
  Session accounts old new Denied =
      (first : First) × WasFirst old.link new.link first × (user_named accounts first ≡ None) × IsUnwatched old new × Closes 1008 old.link new.link
  Session accounts old new Memory = IsUnbegun old new

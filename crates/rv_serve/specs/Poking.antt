-- The links of a listener, served one after another.
use Rattle.std.specs.Prelude.{◌≡◌, ℕ, List, [], ◌∷◌, ◌++◌, map}
use Rattle.rv_net.specs.declared.poke_listen.PokeListen.{Ghosts as PokeListenGhosts}
use Rattle.rv_accounts.specs.declared.account.Account.{Account}
use Rattle.rv_poke.specs.Bells.{BellState}
use Rattle.rv_poke.specs.Sessions.{EndCause, Session, session_state}
use Rattle.rv_poke.specs.declared.poke_end.PokeEnd.{PokeEnd}
use Rattle.rv_poke.specs.declared.poke_link.PokeLink.{Ghosts as LinkGhosts}

-- a link as it was given and as it went back, and how its session ended
pub record ServedLink (C : Type 0) : Type 0 where
  pub given : C
  pub back : C
  pub end : PokeEnd

-- Where the links of a listener are told: these are all that were to come and none is to come now, each is back, in order, and as many are
-- out as before.
pub record LinksAreBack {C : Type 0} (links : List (ServedLink C)) (to_come to_come' came_back came_back' : List C) (out out' : ℕ) : Type 0 where
  pub given : to_come ≡ map (λ link. link.given) links
  pub none : to_come' ≡ []
  pub back : came_back' ≡ came_back ++ map (λ link. link.back) links
  pub same : out' ≡ out

module _ {S C : Type 0} (marks : S → List ℕ → ℕ → S → Type 0) (link : LinkGhosts C) (accounts : List Account) where
  -- A link is served by a poke session, from one state of who tells marks and of the bell to the next.
  pub record ServesLink (old : S) (bell : BellState) (one : ServedLink C) (new : S) (bell' : BellState) : Type 0 where
    pub session : Session marks accounts (session_state old (link.state one.given) bell) (session_state new (link.state one.back) bell') one.end
    pub cause : EndCause (link.state one.given) (link.state one.back) one.end

  -- links are served one after another, each from what the one before it left
  abbrev pub ServesLinkByLink : S → BellState → List (ServedLink C) → S → BellState → Type 0
  ServesLinkByLink old bell [] new bell' = (new ≡ old) × (bell' ≡ bell)
  ServesLinkByLink old bell (one ∷ more) new bell' = (mid : S) × (then : BellState) × ServesLink old bell one mid then × ServesLinkByLink mid then more new bell'

-- All links that a listener gave are served and went back to it.
pub record ServesLinks {S P C : Type 0} (marks : S → List ℕ → ℕ → S → Type 0) (listen : PokeListenGhosts P C) (link : LinkGhosts C) (accounts : List Account) (old : S) (bell : BellState) (given : P) (new : S) (bell' : BellState) (back : P) : Type 0 where
  pub links : List (ServedLink C)
  pub serves : ServesLinkByLink marks link accounts old bell links new bell'
  pub are_back : listen.tells back → LinksAreBack links (listen.to_come given) (listen.to_come back) (listen.came_back given) (listen.came_back back) (listen.out given) (listen.out back)

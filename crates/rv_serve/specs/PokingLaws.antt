-- Looks that are those of what a state shows, and by which a state goes on to the next: then so are the links that are served.
use Rattle.std.proofs.Common.{◌≡◌, ℕ, List, [], ◌∷◌, ◌++◌, ap, sym, subst, inl, inr}
use Rattle.rv_net.specs.declared.poke_listen.PokeListen.{Ghosts as PokeListenGhosts}
use Rattle.rv_accounts.specs.declared.account.Account.{Account}
use Rattle.rv_poke.specs.Bells.{BellState}
use Rattle.rv_poke.specs.Links.{LinkState}
use Rattle.rv_poke.specs.Sessions.{Deed, Looks, Session, Watched, Watches, WatchesNamed, marks_of, session_state}
use Rattle.rv_poke.specs.declared.poke_end.PokeEnd.{PokeEnd}
use Rattle.rv_poke.specs.declared.poke_end.PokeEnd.TheVariants.{Done, Denied, LinkFault, Memory}
use Rattle.rv_poke.specs.declared.poke_link.PokeLink.{Ghosts as LinkGhosts}
use Rattle.rv_serve.specs.Poking.{ServedLink, ServesLinkByLink, ServesLinks}

module _ {S V : Type 0} (shown : S → V) (Goes : S → S → Type 0) (goes_same : (s : S) → Goes s s) (goes_on : (s t u : S) → Goes s t → Goes t u → Goes s u)
    (marking : S → List ℕ → ℕ → S → Type 0) (marks : V → List ℕ → ℕ → V → Type 0)
    (steps : (s : S) (user : List ℕ) (mark : ℕ) (t : S) → marking s user mark t → marks (shown s) user mark (shown t) × Goes s t) where
  goes_to : (old new : S) → new ≡ old → Goes old new
  goes_to old new same = subst (λ (s : S). Goes old s) (sym same) (goes_same old)

  looks_shown : (user : List ℕ) (old : S) (looks : List ℕ) (new : S) → Looks marking user old looks new → Looks marks user (shown old) looks (shown new) × Goes old new
  looks_shown user old [] new same = (ap shown same, goes_to old new same)
  looks_shown user old (mark ∷ more) new (mid, look, rest) =
      let (one, on) = steps old user mark mid look in
      let (others, further) = looks_shown user mid more new rest in
      ((shown mid, one, others), goes_on old mid new on further)

  module _ (old new : S) (link link' : LinkState) (bell bell' : BellState) where
    watched_shown : (user : List ℕ) (before : List Deed) (last : Deed) (well : List Deed) → Watched marking user (session_state old link bell) (session_state new link' bell') before last well
        → Watched marks user (session_state (shown old) link bell) (session_state (shown new) link' bell') before last well × Goes old new
    watched_shown user before last well watched =
        let (looks, on) = looks_shown user old (marks_of (before ++ last ∷ [])) new watched.looks in
        (record { begun = watched.begun; looks = looks; rung = watched.rung; silent = watched.silent; few = watched.few; waits = watched.waits; said = watched.said; found = watched.found }, on)

    watches_shown : (user : List ℕ) (end : PokeEnd) → Watches marking user (session_state old link bell) (session_state new link' bell') end
        → Watches marks user (session_state (shown old) link bell) (session_state (shown new) link' bell') end × Goes old new
    watches_shown user (Done pokes) (before, last, are, watched, stops) =
        let (so, on) = watched_shown user before last _ watched in ((before, last, are, so, stops), on)
    watches_shown user LinkFault (before, last, watched, still) =
        let (so, on) = watched_shown user before last _ watched in ((before, last, so, still), on)
    watches_shown user Denied never = absurd never
    watches_shown user Memory never = absurd never

    named_shown : (accounts : List Account) (end : PokeEnd) → WatchesNamed marking accounts (session_state old link bell) (session_state new link' bell') end
        → WatchesNamed marks accounts (session_state (shown old) link bell) (session_state (shown new) link' bell') end × Goes old new
    named_shown accounts end (first, user, was, named, watches) =
        let (so, on) = watches_shown user end watches in ((first, user, was, named, so), on)

    pub session_shown : (accounts : List Account) (end : PokeEnd) → Session marking accounts (session_state old link bell) (session_state new link' bell') end
        → Session marks accounts (session_state (shown old) link bell) (session_state (shown new) link' bell') end × Goes old new
    session_shown accounts (Done pokes) named = named_shown accounts (Done pokes) named
    session_shown accounts LinkFault (inl ((same, still), idle)) = (inl ((ap shown same, still), idle), goes_to old new same)
    session_shown accounts LinkFault (inr named) = let (so, on) = named_shown accounts LinkFault named in (inr so, on)
    session_shown accounts Denied (first, was, none, (same, still), closes) = ((first, was, none, (ap shown same, still), closes), goes_to old new same)
    session_shown accounts Memory ((same, still), idle) = (((ap shown same, still), idle), goes_to old new same)

  module _ {C : Type 0} (link : LinkGhosts C) (accounts : List Account) where
    links_shown : (old : S) (bell : BellState) (links : List (ServedLink C)) (new : S) (bell' : BellState) → ServesLinkByLink marking link accounts old bell links new bell'
        → ServesLinkByLink marks link accounts (shown old) bell links (shown new) bell' × Goes old new
    links_shown old bell [] new bell' (same, still) = ((ap shown same, still), goes_to old new same)
    links_shown old bell (one ∷ more) new bell' (mid, then, serves, rest) =
        let (so, on) = session_shown old mid (link.state one.given) (link.state one.back) bell then accounts one.end serves.session in
        let (others, further) = links_shown mid then more new bell' rest in
        ((shown mid, then, record { session = so; cause = serves.cause }, others), goes_on old mid new on further)

    module _ {P : Type 0} (listen : PokeListenGhosts P C) where
      pub all_links_shown : (old : S) (bell : BellState) (given : P) (new : S) (bell' : BellState) (back : P) → ServesLinks marking listen link accounts old bell given new bell' back
          → ServesLinks marks listen link accounts (shown old) bell given (shown new) bell' back × Goes old new
      all_links_shown old bell given new bell' back all =
          let (serves, on) = links_shown old bell all.links new bell' all.serves in
          (record { links = all.links; serves = serves; are_back = all.are_back }, on)

-- Links that are served one after another, and go back.
use Rattle.std.proofs.Common.{◌≡◌, ℕ, List, [], ◌∷◌, ◌++◌, map, refl, sym, ap, ◌∙◌, subst, append_assoc, append-nil}
use Rattle.std.proofs.lemmas.List.{map-append}
use Rattle.rv_net.specs.declared.poke_listen.PokeListen.{Ghosts as PokeListenGhosts}
use Rattle.rv_accounts.specs.declared.account.Account.{Account}
use Rattle.rv_poke.specs.Bells.{BellState}
use Rattle.rv_poke.specs.Sessions.{EndCause, Session, session_state}
use Rattle.rv_poke.specs.declared.poke_end.PokeEnd.{PokeEnd}
use Rattle.rv_poke.specs.declared.poke_link.PokeLink.{Ghosts as LinkGhosts}
use Rattle.rv_serve.specs.Poking.{ServedLink, ServesLink, ServesLinkByLink}

-- Of links that were to come, these were given and are back, and as many are out as before.
pub record AreLinksServed {C : Type 0} (links : List (ServedLink C)) (to_come to_come' came_back came_back' : List C) (out out' : ℕ) : Type 0 where
  pub given : to_come ≡ map (λ link. link.given) links ++ to_come'
  pub back : came_back' ≡ came_back ++ map (λ link. link.back) links
  pub same : out' ≡ out

module _ {S C P : Type 0} (marks : S → List ℕ → ℕ → S → Type 0) (listen : PokeListenGhosts P C) (link : LinkGhosts C) (accounts : List Account) where
  abbrev Each : S → BellState → List (ServedLink C) → S → BellState → Type 0
  Each = ServesLinkByLink marks link accounts

  abbrev One : S → BellState → ServedLink C → S → BellState → Type 0
  One = ServesLink marks link accounts

  each_one : (old : S) (bell : BellState) (links : List (ServedLink C)) (mid : S) (then : BellState) (one : ServedLink C) (new : S) (bell' : BellState)
      → Each old bell links mid then → One mid then one new bell' → Each old bell (links ++ one ∷ []) new bell'
  each_one old bell [] mid then one new bell' (same, still) serves =
      (new, bell', subst (λ (p : S × BellState). One p.0 p.1 one new bell') (λ i. (same i, still i)) serves, (refl, refl))
  each_one old bell (first ∷ links) mid then one new bell' (next, at, serves, each) last = (next, at, serves, each_one next at links mid then one new bell' each last)

  pub record LinksSoFar (old : S) (bell : BellState) (given : P) (new : S) (bell' : BellState) (left : P) : Type 0 where
    pub links : List (ServedLink C)
    pub serves : Each old bell links new bell'
    pub are_served : listen.tells left → AreLinksServed links (listen.to_come given) (listen.to_come left) (listen.came_back given) (listen.came_back left) (listen.out given) (listen.out left)

  pub none_so_far : (old : S) (bell : BellState) (given : P) → LinksSoFar old bell given old bell given
  none_so_far old bell given = record { links = []; serves = (refl, refl); are_served = λ now. record { given = refl; back = sym (append-nil (listen.came_back given)); same = refl } }

  -- the next link is given, served, and goes back
  pub links_more : (old : S) (bell : BellState) (first : P) (mid : S) (then : BellState) (left : P) (new : S) (bell' : BellState) (next : P) (given returned : C) (end : PokeEnd)
      → LinksSoFar old bell first mid then left
      → Session marks accounts (session_state mid (link.state given) then) (session_state new (link.state returned) bell') end
      → EndCause (link.state given) (link.state returned) end
      → (listen.tells next → listen.tells left) → (listen.tells next → listen.to_come left ≡ given ∷ listen.to_come next) → (listen.tells next → listen.came_back next ≡ listen.came_back left ++ returned ∷ [])
      → (listen.tells next → listen.out left ≡ listen.out next) → LinksSoFar old bell first new bell' next
  links_more old bell first mid then left new bell' next given returned end served session cause earlier gives goes stays =
      let one : ServedLink C = record { given = given; back = returned; end = end } in record {
        links = served.links ++ one ∷ [];
        serves = each_one old bell served.links mid then one new bell' served.serves (record { session = session; cause = cause });
        are_served = λ now.
            let so = served.are_served (earlier now) in record {
              given = so.given ∙ ap (λ (cs : List C). map (λ (l : ServedLink C). l.given) served.links ++ cs) (gives now)
                  ∙ sym (append_assoc (map (λ (l : ServedLink C). l.given) served.links) (given ∷ []) (listen.to_come next)) ∙ ap (λ (cs : List C). cs ++ listen.to_come next) (sym (map-append (λ (l : ServedLink C). l.given) served.links (one ∷ [])));
              back = goes now ∙ ap (λ (cs : List C). cs ++ returned ∷ []) so.back
                  ∙ append_assoc (listen.came_back first) (map (λ (l : ServedLink C). l.back) served.links) (returned ∷ []) ∙ ap (λ (cs : List C). listen.came_back first ++ cs) (sym (map-append (λ (l : ServedLink C). l.back) served.links (one ∷ [])));
              same = sym (stays now) ∙ so.same;
            };
      }

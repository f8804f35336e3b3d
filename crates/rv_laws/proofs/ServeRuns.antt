-- From the clause of `run` to the listeners that were served, and what holds of them.
use Rattle.std.proofs.Common.{◌≡◌, ℕ, ◌-◌, ◌^◌, ◌<◌, ◌≤◌, ◌⊎◌, inl, inr, List, [], ◌∷◌, Some, sym, ap, ◌∙◌, subst, arith}
use Rattle.std.specs.List.{AllByRecursion}
use Rattle.rv_base.specs.declared.outside.Source.{Ghosts as SourceGhosts}
use Rattle.rv_base.specs.declared.outside.Sink.{Ghosts as SinkGhosts}
use Rattle.rv_accounts.specs.File.{AccountsServed}
use Rattle.rv_keeper.specs.declared.keeper.Keeper.{Ghosts}
use Rattle.rv_keeper.specs.declared.place.Place.{Ghosts as PlaceGhosts}
use Rattle.rv_book.specs.Book.{size}
use Rattle.rv_net.specs.declared.listen.Listen.{Ghosts as ListenGhosts}
use Rattle.rv_net.specs.declared.net.Net.{Ghosts as NetGhosts}
use Rattle.rv_net.specs.declared.poke_listen.PokeListen.{Ghosts as PokeListenGhosts}
use Rattle.rv_poke.specs.declared.poke_link.PokeLink.{Ghosts as LinkGhosts}
use Rattle.rv_cli.specs.declared.ending.Ending.{Ending}
use Rattle.rv_cli.specs.declared.ending.Ending.TheVariants as endings
use Rattle.rv_cli.specs.declared.serve_ending.ServeEnding.{ServeEnding}
use Rattle.rv_cli.specs.declared.serve_ending.ServeEnding.TheVariants.{BadAccounts, TwiceAccounts, NotOpened, Net, Memory}
use Rattle.rv_cli.specs.Change.{StoreChange, change}
use Rattle.rv_cli.specs.Headline.{IsNotOpened, AnswersChange, AnswersTrouble}
use Rattle.rv_cli.specs.Serving.{HasNoAccounts, IsNoNet, ServedBooksAreLawful, ServedKeepersStay, ServedPullsAreShown, ServedTroublesHaveCauses}
use Rattle.rv_cli.specs.Texts.{serve_status, status_of}
use Rattle.rv_laws.specs.Listeners.{ServedClientsFollow, ServedPushesStand, ServedWritesAreRead}
use Rattle.rv_laws.specs.Serves.{all_turns, ServeBooksAreLawful, ServeClientsFollow, ServeKeepersStay, ServePullsAreShown, ServePushesStand, ServesAreRuns, ServeTroublesHaveCauses, ServeWritesAreRead}
use Rattle.rv_laws.proofs.FedLaws.{no_fault}

-- what holds of each under a premise that holds
each_so : {X : Type 0} (A : Type 0) (Q : X → Type 0) (xs : List X) → A → AllByRecursion (λ x. A → Q x) xs → AllByRecursion Q xs
each_so A Q [] here all = tt
each_so A Q (x ∷ xs) here (one, rest) = (one here, each_so A Q xs here rest)

-- ---- What ends otherwise has another status.

abbrev IsOf : ℕ → Type 0
IsOf status = (status ≡ 0) ⊎ (status ≡ 7)

neither : (n : ℕ) → 0 < n → (n ≡ 7 → ⊥) → IsOf n → ⊥
neither n some other (inl is) = omega (arith, is)
neither n some other (inr is) = other is

no_accounts : {P K : Type 0} (place : PlaceGhosts P K) (name : List ℕ) (old new : P) (ending : ServeEnding) → HasNoAccounts place name old new ending → IsOf (serve_status ending) → ⊥
no_accounts place name old new (BadAccounts number) why of = neither 3 (omega arith) (λ is. omega (arith, is)) of
no_accounts place name old new (TwiceAccounts number) why of = neither 3 (omega arith) (λ is. omega (arith, is)) of
no_accounts place name old new (NotOpened endings.Keeper) why of = neither 4 (omega arith) (λ is. omega (arith, is)) of
no_accounts place name old new (NotOpened endings.Memory) why of = neither 8 (omega arith) (λ is. omega (arith, is)) of
no_accounts place name old new ending why of = absurd why

no_store : (c : StoreChange) (ending : Ending) → IsNotOpened c ending → IsOf (status_of ending) → ⊥
no_store c endings.Keeper why of = neither 4 (omega arith) (λ is. omega (arith, is)) of
no_store c (endings.Damaged damage) why of = neither 5 (omega arith) (λ is. omega (arith, is)) of
no_store c endings.Memory why of = neither 8 (omega arith) (λ is. omega (arith, is)) of
no_store c ending why of = absurd why

no_net : (before after : ℕ) (ending : ServeEnding) → IsNoNet before after ending → IsOf (serve_status ending) → ⊥
no_net before after Net why of = neither 9 (omega arith) (λ is. omega (arith, is)) of
no_net before after Memory why of = neither 8 (omega arith) (λ is. omega (arith, is)) of
no_net before after ending why of = absurd why

-- ---- The run.

module _ {P N K L W I O C : Type 0} (place : PlaceGhosts P K) (G : Ghosts K) (net : NetGhosts N L W I O C) (listen : ListenGhosts L I O) (source : SourceGhosts I) (sink : SinkGhosts O) where
  pub serves_are_runs : {Out : Type 0} (pokes : PokeListenGhosts W C) (link : LinkGhosts C) (output : SinkGhosts Out) → ServesAreRuns place G net listen source sink pokes link output
  serves_are_runs pokes link output old new before after store options out out' status (ending, is, inl refused) at =
      absurd (no_accounts place options.accounts old new ending refused.why (subst (λ (n : ℕ). IsOf n) is at))
  serves_are_runs pokes link output old new before after store options out out' status (ending, is, inr (inl closed)) at =
      absurd (no_store (change place store old new) closed.other closed.why (subst (λ (n : ℕ). IsOf n) (is ∙ ap serve_status closed.is) at))
  serves_are_runs pokes link output old new before after store options out out' status (ending, is, inr (inr (inl idle))) at =
      absurd (no_net (net.faults before) (net.faults after) ending idle.why (subst (λ (n : ℕ). IsOf n) is at))
  serves_are_runs pokes link output old new before after store options out out' status (ending, is, inr (inr (inr ran))) at =
      let serves = ran.serves in
      record {
        accounts = ran.accounts;
        opened = ran.first;
        now = ran.now;
        givens = serves.given;
        backs = serves.returned;
        begins = ran.begins;
        together = serves.serves.conns;
        sound = ran.sound;
        told = ran.told;
        leaves = ran.leaves;
        count = serves.conns.count;
        first = serves.conns.first;
        last = serves.conns.last;
      }

  pub books_are_lawful : ((accounts : AccountsServed) → ServedBooksAreLawful G listen source sink accounts)
      → ServeBooksAreLawful place G net listen source sink
  books_are_lawful law old new before after store options run = law run.accounts run.opened run.now run.givens run.backs run.together run.sound

  pub pulls_are_shown : ((accounts : AccountsServed) → ServedPullsAreShown G listen source sink accounts)
      → ServePullsAreShown place G net listen source sink
  pulls_are_shown law old new before after store options run = law run.accounts run.opened run.now run.givens run.backs run.together

  pub troubles_have_causes : ((accounts : AccountsServed) → ServedTroublesHaveCauses G listen source sink accounts)
      → ServeTroublesHaveCauses place G net listen source sink
  troubles_have_causes law old new before after store options run stays below =
      each_so (((G.faults run.now.keeper ≡ G.faults run.opened.keeper) × (G.faults run.opened.keeper < 2 ^ 64 - 1)) ⊎ G.fails_no_more run.opened.keeper) (λ turn. AnswersTrouble (Some turn.1) → ⊥)
      (all_turns place G net listen source sink old new before after store options run) (inl ((no_fault run.leaves.kept (place.faults old) (place.faults new) (G.faults run.now.keeper) run.leaves.taken stays below run.leaves.later) ∙ sym run.begins.faults, omega (arith, run.begins.faults))) (law run.accounts run.opened run.now run.givens run.backs run.together)

  pub keepers_stay : ((accounts : AccountsServed) → ServedKeepersStay G listen source sink accounts)
      → ServeKeepersStay place G net listen source sink
  keepers_stay law old new before after store options run told =
      each_so (G.tells run.now.keeper) (λ turn. AnswersChange (Some turn.1) → ⊥)
      (all_turns place G net listen source sink old new before after store options run) (run.told told) (law run.accounts run.opened run.now run.givens run.backs run.together)

  pub pushes_stand : ((accounts : AccountsServed) → ServedPushesStand G listen source sink accounts)
      → ServePushesStand place G net listen source sink
  pushes_stand law old new before after store options run = law run.accounts run.opened run.now run.givens run.backs run.together run.sound

  pub clients_follow : ((accounts : AccountsServed) → ServedBooksAreLawful G listen source sink accounts)
      → ((accounts : AccountsServed) → ServedClientsFollow G listen source sink accounts)
      → ServeClientsFollow place G net listen source sink
  clients_follow lawful law old new before after store options run =
      let kept = lawful run.accounts run.opened run.now run.givens run.backs run.together run.sound in
      let limit : run.now.limit ≡ 2 ^ 32 - 1 = kept.limit run.begins.limit in
      let within : size run.now.book ≤ run.now.limit = run.sound.within in
      law run.accounts run.opened run.now run.givens run.backs run.together run.sound (omega (arith, limit, within))

  pub writes_are_read : ((accounts : AccountsServed) → ServedWritesAreRead G listen source sink accounts)
      → ServeWritesAreRead place G net listen source sink
  writes_are_read law old new before after store options run = law run.accounts run.opened run.now run.givens run.backs run.together run.sound

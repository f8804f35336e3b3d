-- What is served side by side stands in one book: its turns, its pulls, and its troubles.
use Rattle.std.proofs.Common.{◌≡◌, ◌⊎◌, ⊎_elim, ℕ, ◌-◌, ◌^◌, ◌<◌, ◌≤◌, List, [], ◌∷◌, ◌++◌, Option, Some, None, Ok, Err, refl, sym, ap, ◌∙◌, subst, append_assoc, append-nil, arith, inl, inr}
use Rattle.std.specs.List.{AllByRecursion, flat_map}
use Rattle.rv_base.specs.Causes.{Rose}
use Rattle.rv_base.specs.declared.outside.Source.{Ghosts as SourceGhosts}
use Rattle.rv_base.specs.declared.outside.Sink.{Ghosts as SinkGhosts}
use Rattle.rv_accounts.specs.File.{AccountsServed}
use Rattle.rv_book.specs.Book.{Book, Extends}
use Rattle.rv_book.specs.BookWordLaws.{extends_same, extends_on}
use Rattle.rv_history.specs.TurnLaws.{goes_from, step_of, turn_goes}
use Rattle.rv_history.specs.Properties.{IdsCountUp, OrdersRise, PullsShow}
use Rattle.std.specs.Option.{option_map_or}
use Rattle.rv_keeper.specs.declared.keeper.Keeper.{Ghosts}
use Rattle.rv_desk.specs.DeskStates.{DeskState, served}
use Rattle.rv_answering.specs.declared.answer.Answer.{Answer}
use Rattle.rv_answering.specs.declared.answer.Answer.TheVariants.{Closed, Pulled, Pushed, Refused, Retired}
use Rattle.rv_answering.specs.declared.request.Request.TheVariants.{Close, Push, Pull, Retire}
use Rattle.rv_answering.specs.Requests.{Parsed}
use Rattle.rv_answering.specs.Steps.{Handles}
use Rattle.rv_net.specs.declared.listen.Listen.{Ghosts as ListenGhosts}
use Rattle.rv_room.specs.declared.view.SeatView.{SeatView}
use Rattle.rv_room.specs.Following.{FollowsAll, KeeperFollows}
use Rattle.rv_room.specs.Views.{newcomer}
use Rattle.rv_serve.specs.Properties.{RunsTurns, turns_of}
use Rattle.rv_serve.specs.RunLaws.{conns_run}
use Rattle.rv_workers.specs.Serving.{EachServes}
use Rattle.rv_cli.specs.Headline.{AnswersChange, AnswersTrouble}
use Rattle.rv_cli.specs.Serving.{IsShownIn, ServedBooksAreLawful, ServedKeepersStay, ServedPullsAreShown, ServedTroublesHaveCauses, Serves, ShowsIn, StandsIn, TurnsStand, turns_served}
use Rattle.rv_answering.specs.AnswerLaws.{no_push, pulled_same}
use Rattle.rv_laws.proofs.LawfulRuns.{no_retirement, pulled_shown}
use Rattle.rv_cli.specs.TroubleLaws.{HasTrouble, any_step_causes, taken_rises, turns_each, turns_later}
use Rattle.rv_wire.specs.Answers.{pull_json}
use Rattle.rv_turns.specs.Asks.{Ask}
use Rattle.rv_turns.specs.Outcomes.{IsChanged, trouble_of}
use Rattle.rv_turns.specs.declared.pushing.Outcome.{Outcome}
use Rattle.rv_turns.specs.declared.pushing.Outcome.TheVariants as outcomes
use Rattle.rv_turns.specs.declared.refusal.Trouble.{Trouble}
use Rattle.rv_turns.specs.declared.pull.PullRequest.{PullRequest}
use Rattle.rv_turns.specs.declared.pull.PullReply.{PullReply}
use Rattle.rv_room.specs.SeatTurns.{IsSeatTurn, settled_by}

-- ---- Fronts of lists.

all_front : {X : Type 0} (Holds : X → Type 0) (xs more : List X) → AllByRecursion Holds (xs ++ more) → AllByRecursion Holds xs
all_front Holds [] more all = tt
all_front Holds (x ∷ xs) more (one, rest) = (one, all_front Holds xs more rest)

all_last : {X : Type 0} (Holds : X → Type 0) (xs : List X) (x : X) → AllByRecursion Holds (xs ++ x ∷ []) → Holds x
all_last Holds [] x (one, rest) = one
all_last Holds (y ∷ ys) x (one, rest) = all_last Holds ys x rest

all_both : {X : Type 0} (Holds : X → Type 0) (xs ys : List X) → AllByRecursion Holds xs → AllByRecursion Holds ys → AllByRecursion Holds (xs ++ ys)
all_both Holds [] ys none all = all
all_both Holds (x ∷ xs) ys (one, rest) all = (one, all_both Holds xs ys rest all)

-- ---- A turn of a seat.

-- what it has seen goes on, and it remembers all keepers that it remembered
record SeatGoes {K : Type 0} (old new : SeatView K) : Type 0 where
  pub seen : Extends new.seen old.seen
  pub after : (more : List K) × (new.after ≡ old.after ++ more)
  pub opened : new.opened ≡ old.opened

-- no keeper is remembered that failed more often
abbrev Quiet : {K : Type 0} → Ghosts K → ℕ → SeatView K → Type 0
Quiet G top v = AllByRecursion (λ keeper. G.faults keeper ≤ top) v.after

some_desk : {X : Type 0} (a b : X) → Some a ≡ Some b → a ≡ b
some_desk a b e = ap (λ o. option_map_or (λ x. x) o a) e

module _ {K : Type 0} where
  goes_same : (v : SeatView K) → SeatGoes v v
  goes_same v = record { seen = extends_same v.seen v.seen refl; after = ([], sym (append-nil v.after)); opened = refl }

  goes_on : (v w u : SeatView K) → SeatGoes v w → SeatGoes w u → SeatGoes v u
  goes_on v w u before after = let (some, is) = before.after in let (more, now) = after.after in record {
    seen = extends_on u.seen w.seen v.seen after.seen before.seen;
    after = (some ++ more, now ∙ ap (λ (keepers : List K). keepers ++ more) is ∙ append_assoc v.after some more);
    opened = after.opened ∙ before.opened;
  }

module _ {K : Type 0} (G : Ghosts K) where
  quiet_before : (top : ℕ) (v w : SeatView K) → SeatGoes v w → Quiet G top w → Quiet G top v
  quiet_before top v w goes quiet = all_front (λ (keeper : K). G.faults keeper ≤ top) v.after goes.after.0 (subst (λ (l : List K). AllByRecursion (λ keeper. G.faults keeper ≤ top) l) goes.after.1 quiet)

  -- what is followed by a keeper has failed no more often
  quiet_last : (keeper : K) (top : ℕ) → G.faults keeper ≡ top → (keepers : List K) → FollowsAll G keepers keeper → AllByRecursion (λ old. G.faults old ≤ top) keepers
  quiet_last keeper top is [] all = tt
  quiet_last keeper top is (old ∷ keepers) (follows, all) = (omega (arith, is, follows.later), quiet_last keeper top is keepers all)

  -- the count of the desk's keeper has not risen since the room was opened, or it failed no more then
  abbrev Calm : DeskState K → SeatView K → Type 0
  Calm opened v = (Quiet G (G.faults opened.keeper) v × (G.faults opened.keeper < 2 ^ 64 - 1)) ⊎ G.fails_no_more opened.keeper

  -- no keeper that tells follows all that are remembered
  abbrev Untold : SeatView K → SeatView K → Type 0
  Untold old new = (keeper : K) → FollowsAll G new.after keeper → G.tells keeper → ⊥

  -- where the room was opened with such a desk, this can't be
  abbrev Stirs : SeatView K → SeatView K → Type 0
  Stirs old new = (opened : DeskState K) → old.opened ≡ Some opened → Calm opened new → ⊥

  stirs_before : (s t u : SeatView K) → SeatGoes s t → Stirs t u → Stirs s u
  stirs_before s t u goes stirs opened at calm = stirs opened (goes.opened ∙ at) calm

-- no count rises that is quiet
none_rises : (top before now : ℕ) → Rose before now → top ≤ before → now ≤ top → top < 2 ^ 64 - 1 → ⊥
none_rises top before now rose begun le below = omega (arith, rose, begun, le, below)

module _ {K : Type 0} (G : Ghosts K) (ask : Ask) (old new : SeatView K) (outcome : Outcome) (turn : IsSeatTurn G old ask outcome new) where
  seat_goes : SeatGoes old new
  seat_goes =
      let (more, is) = turn_goes pull_json ask outcome (served G.faults turn.desk) (served G.faults turn.now) turn.asks turn.keeps.doubt turn.takes.turn in
      record { seen = extends_on new.seen turn.desk.book old.seen (more, turn.seen ∙ is) turn.begins; after = (turn.now.keeper ∷ [], turn.after); opened = turn.stays }

  -- where it tells a trouble, the keeper's count rose
  seat_rises : HasTrouble (λ trouble. Unit {0}) (trouble_of outcome) → Stirs G old new
  seat_rises has opened at (inl (quiet, below)) =
      let same : turn.opened ≡ opened = some_desk turn.opened opened (sym turn.room ∙ at) in
      let top : ℕ = G.faults opened.keeper in
      let now : G.faults turn.now.keeper ≤ top = all_last (λ (keeper : K). G.faults keeper ≤ top) old.after turn.now.keeper (subst (λ (l : List K). AllByRecursion (λ keeper. G.faults keeper ≤ top) l) turn.after quiet) in
      let begun : top ≤ G.faults turn.desk.keeper = subst (λ (d : DeskState K). G.faults d.keeper ≤ G.faults turn.desk.keeper) same turn.keeps.keeper.later in
      let rose = (taken_rises ask (served G.faults turn.desk) (served G.faults turn.now) outcome turn.takes.turn).1 has in
      none_rises top (G.faults turn.desk.keeper) (G.faults turn.now.keeper) rose begun now below
  seat_rises (tr, is, any) opened at (inr calm) =
      let same : turn.opened ≡ opened = some_desk turn.opened opened (sym turn.room ∙ at) in
      let steady : G.fails_no_more turn.desk.keeper = turn.keeps.keeper.goes_on (subst (λ (d : DeskState K). G.fails_no_more d.keeper) (sym same) calm) in
      absurd (let no : Some tr ≡ None = sym is ∙ turn.takes.assured.sure steady in cc)

  seat_causes : SeatGoes old new × (HasTrouble (λ trouble. Unit {0}) (trouble_of outcome) → Stirs G old new)
  seat_causes = (seat_goes, seat_rises)

  -- where it tells a change by another, the keeper did not tell as the turn ended
  seat_changed : SeatGoes old new × (HasTrouble (λ trouble. IsChanged (Some trouble)) (trouble_of outcome) → Untold G old new)
  seat_changed = (
    seat_goes,
    λ (tr, is, changed) keeper follows told.
        let last : KeeperFollows G turn.now.keeper keeper = all_last (λ (old : K). KeeperFollows G old keeper) old.after turn.now.keeper (subst (λ (l : List K). FollowsAll G l keeper) turn.after follows) in
        turn.takes.assured.near (last.told told) (subst (λ (found : Option Trouble). IsChanged found) (sym is) changed),
  )

module _ {K : Type 0} (G : Ghosts K) where
  seat_step : (old new : SeatView K) (asked : Parsed) (answer : Answer) → Handles (IsSeatTurn G) old asked answer new
      → SeatGoes old new × (AnswersTrouble (Some answer) → Stirs G old new)
  seat_step = any_step_causes (λ trouble. Unit {0}) (IsSeatTurn G) SeatGoes (Stirs G) goes_same goes_on (stirs_before G) (seat_causes G)

  seat_changes : (old new : SeatView K) (asked : Parsed) (answer : Answer) → Handles (IsSeatTurn G) old asked answer new
      → SeatGoes old new × (AnswersChange (Some answer) → Untold G old new)
  seat_changes = any_step_causes (λ trouble. IsChanged (Some trouble)) (IsSeatTurn G) SeatGoes (Untold G) goes_same goes_on (λ s t u later untold. untold) (seat_changed G)

  seat_each : (Holds : Parsed × Answer → Type 0) (last : SeatView K)
      → ((old new : SeatView K) (turn : Parsed × Answer) → Handles (IsSeatTurn G) old turn.0 turn.1 new → SeatGoes new last → Holds turn)
      → (old : SeatView K) (turns : List (Parsed × Answer)) → RunsTurns (IsSeatTurn G) old turns last → AllByRecursion Holds turns
  seat_each = turns_each (λ trouble. Unit {0}) (IsSeatTurn G) SeatGoes (Stirs G) goes_same goes_on (stirs_before G) (seat_causes G)

  seat_later : (old new : SeatView K) (turns : List (Parsed × Answer)) → RunsTurns (IsSeatTurn G) old turns new → SeatGoes old new
  seat_later = turns_later (λ trouble. Unit {0}) (IsSeatTurn G) SeatGoes (Stirs G) goes_same goes_on (stirs_before G) (seat_causes G)

  -- ---- A pull.

  shown_pull : PullsShow pull_json → (book : Book) (old new : SeatView K) (user : List ℕ) (request : PullRequest) (reply : PullReply) (outcome : Outcome) → Extends book new.seen → outcome ≡ outcomes.Pulled reply → IsSeatTurn G old (Ask.pull user request) outcome new
      → IsShownIn book (Ok (Pull user request)) reply
  shown_pull show book old new user request reply outcome within is turn =
      let here : IsSeatTurn G old (Ask.pull user request) (outcomes.Pulled reply) new = subst (λ (o : Outcome). IsSeatTurn G old (Ask.pull user request) o new) is turn in
      let taken = here.takes.turn in
      let step = step_of pull_json (Ask.pull user request) (outcomes.Pulled reply) (served G.faults here.desk) (served G.faults here.now) taken refl in record {
        point = taken.settled;
        new = here.now.book;
        shows = pulled_shown show here.desk.limit user request reply taken.settled here.now.book step;
        here = goes_from pull_json (Ask.pull user request) (outcomes.Pulled reply) (served G.faults here.desk) (served G.faults here.now) (λ never. never) taken;
        within = subst (λ (b : Book). Extends book b) here.seen within;
      }

  shown_step : PullsShow pull_json → (book : Book) (old new : SeatView K) (asked : Parsed) (reply : PullReply) → Extends book new.seen → Handles (IsSeatTurn G) old asked (Pulled reply) new → IsShownIn book asked reply
  shown_step show book old new (Ok (Push user push)) reply within (acted, inl wants) = absurd (let no = wants.0 in cc)
  shown_step show book old new (Ok (Push user push)) reply within (acted, inr (refused, h, is)) = absurd (no_push reply refused is)
  shown_step show book old new (Ok (Pull user pull)) reply within (acted, inl wants) = absurd (let no = wants.0 in cc)
  shown_step show book old new (Ok (Pull user pull)) reply within (acted, inr (outcome, h, is, none)) = shown_pull show book old new user pull reply outcome within (pulled_same reply outcome is) h
  shown_step show book old new (Ok (Retire group)) reply within (acted, (outcome, h, is, none)) = absurd (no_retirement (served G.faults h.desk) (served G.faults h.now) group reply outcome is h.takes.turn)
  shown_step show book old new (Ok Close) reply within (acted, (outcome, h, is, none)) = absurd (h.asks tt)
  shown_step show book old new (Err fault) reply within (acted, inl wants) = absurd (let no = wants.0 in cc)
  shown_step show book old new (Err fault) reply within (acted, inr told) = absurd (let no = told.0 in cc)

  shows_in : PullsShow pull_json → (book : Book) (old new : SeatView K) (asked : Parsed) (answer : Answer) → Extends book new.seen → Handles (IsSeatTurn G) old asked answer new → ShowsIn book (asked, answer)
  shows_in show book old new asked (Pulled reply) within step = shown_step show book old new asked reply within step
  shows_in show book old new asked Pushed within step = tt
  shows_in show book old new asked (Retired place) within step = tt
  shows_in show book old new asked (Closed place) within step = tt
  shows_in show book old new asked (Refused why) within step = tt

-- ---- All that is served.

module _ {K L I O : Type 0} (G : Ghosts K) (listen : ListenGhosts L I O) (source : SourceGhosts I) (sink : SinkGhosts O) (accounts : AccountsServed) where
  abbrev Is : SeatView K → L → SeatView K → L → Type 0
  Is = Serves G listen source sink accounts

  abbrev turns_in : (first : SeatView K) (givens : List L) (lasts : List (SeatView K)) (backs : List L) → EachServes Is first givens lasts backs → List (Parsed × Answer)
  turns_in = turns_served G listen source sink accounts

  -- what holds of each turn of a seat whose last view is known to be good
  served_each : (Good : SeatView K → Type 0) (Holds : Parsed × Answer → Type 0)
      → (first : SeatView K)
      → ((last old new : SeatView K) (turn : Parsed × Answer) → Good last → last.opened ≡ first.opened → Handles (IsSeatTurn G) old turn.0 turn.1 new → SeatGoes new last → Holds turn)
      → (givens : List L) (lasts : List (SeatView K)) (backs : List L) (each : EachServes Is first givens lasts backs) → AllByRecursion Good lasts → AllByRecursion Holds (turns_in first givens lasts backs each)
  served_each Good Holds first holds (given ∷ givens) (last ∷ lasts) (back ∷ backs) (is, each) (good, goods) =
      let run = conns_run (IsSeatTurn G) source sink settled_by accounts first last is.serves.conns is.serves.serves in
      all_both Holds (turns_of accounts (flat_map (λ conn. conn.answers) is.serves.conns)) (turns_in first givens lasts backs each)
      (seat_each G Holds last (λ old new turn step goes. holds last old new turn good (seat_later G first last (turns_of accounts (flat_map (λ conn. conn.answers) is.serves.conns)) run).opened step goes) first (turns_of accounts (flat_map (λ conn. conn.answers) is.serves.conns)) run)
      (served_each Good Holds first holds givens lasts backs each goods)
  served_each Good Holds first holds [] lasts backs each goods = tt
  served_each Good Holds first holds (given ∷ givens) [] backs each goods = tt
  served_each Good Holds first holds (given ∷ givens) (last ∷ lasts) [] each goods = tt

  pub turns_stand : TurnsStand G listen source sink accounts
  turns_stand opened now givens backs together =
      served_each (λ v. Extends now.book v.seen) (StandsIn G now.book) (newcomer 1 opened)
      (λ last old new turn within room step goes. record {
        old = old;
        new = new;
        step = step;
        grows = (seat_step G old new turn.0 turn.1 step).0.seen;
        within = extends_on now.book last.seen new.seen within goes.seen;
      })
      givens together.views backs together.serves together.closes.seen

  pub pulls_are_shown : PullsShow pull_json → ServedPullsAreShown G listen source sink accounts
  pulls_are_shown show opened now givens backs together =
      served_each (λ v. Extends now.book v.seen) (ShowsIn now.book) (newcomer 1 opened)
      (λ last old new turn within room step goes. shows_in G show now.book old new turn.0 turn.1 (extends_on now.book last.seen new.seen within goes.seen) step)
      givens together.views backs together.serves together.closes.seen

  pub troubles_have_causes : ServedTroublesHaveCauses G listen source sink accounts
  troubles_have_causes opened now givens backs together =
      served_each (λ v. FollowsAll G v.after now.keeper) (λ turn. ((G.faults now.keeper ≡ G.faults opened.keeper) × (G.faults opened.keeper < 2 ^ 64 - 1)) ⊎ G.fails_no_more opened.keeper → AnswersTrouble (Some turn.1) → ⊥) (newcomer 1 opened)
      (λ last old new turn follows room step goes calm told.
      let (here, stirs) = seat_step G old new turn.0 turn.1 step in
      stirs told opened (sym here.opened ∙ (sym goes.opened ∙ room))
      (⊎_elim
      (λ (same : (G.faults now.keeper ≡ G.faults opened.keeper) × (G.faults opened.keeper < 2 ^ 64 - 1)). inl (quiet_before G (G.faults opened.keeper) new last goes (quiet_last G now.keeper (G.faults opened.keeper) same.0 last.after follows), same.1))
      (λ (s : G.fails_no_more opened.keeper). inr s)
      calm))
      givens together.views backs together.serves together.closes.after

  pub keepers_stay : ServedKeepersStay G listen source sink accounts
  keepers_stay opened now givens backs together =
      served_each (λ v. FollowsAll G v.after now.keeper) (λ turn. G.tells now.keeper → AnswersChange (Some turn.1) → ⊥) (newcomer 1 opened)
      (λ last old new turn follows room step goes told changed.
      let before : FollowsAll G new.after now.keeper = all_front (λ (keeper : K). KeeperFollows G keeper now.keeper) new.after goes.after.0 (subst (λ (l : List K). FollowsAll G l now.keeper) goes.after.1 follows) in
      (seat_changes G old new turn.0 turn.1 step).1 changed now.keeper before told)
      givens together.views backs together.serves together.closes.after

  pub books_are_lawful : IdsCountUp → OrdersRise → ServedBooksAreLawful G listen source sink accounts
  books_are_lawful ids orders opened now givens backs together sound = record {
    sound = sound;
    more = λ told. together.closes.begun;
    ids = λ client. ids now.book client sound.lawful;
    orders = λ group. orders now.book group sound.lawful;
    later = together.closes.risen;
    limit = λ is. together.closes.keeps.limit ∙ is;
  }

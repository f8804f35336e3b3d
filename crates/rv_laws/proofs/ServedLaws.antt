-- What holds of listeners that are served side by side.
use Rattle.std.proofs.Common.{◌≡◌, ℕ, zero, suc, ◌≤◌, inl, inr, Bool, true, false, List, [], ◌∷◌, Option, Some, None, Ok, refl, sym, ap, ◌∙◌, subst, arith}
use Rattle.std.specs.List.{AllByRecursion, Contains}
use Rattle.std.specs.Option.{MatchOption}
use Rattle.rv_base.specs.declared.outside.Source.{Ghosts as SourceGhosts}
use Rattle.rv_base.specs.declared.outside.Sink.{Ghosts as SinkGhosts}
use Rattle.rv_accounts.specs.File.{AccountsServed}
use Rattle.rv_book.specs.Book.{Book, Extends}
use Rattle.rv_book.specs.BookWordLaws.{extends_same, extends_on}
use Rattle.rv_history.specs.Clients.{ClientPull, ClientsFollow, EachCurrent, WasSent}
use Rattle.rv_history.specs.TurnLaws.{goes_from, no_trouble, settles_go, step_of, turn_goes}
use Rattle.rv_history.specs.Lawful.{IsLawful}
use Rattle.rv_history.specs.LawfulBookLaws.{lawful_front}
use Rattle.rv_history.specs.Properties.{IsEntered, MutationsStand, PullsShow, ReplyShows}
use Rattle.rv_history.specs.SuccessionLaws.{entered_on}
use Rattle.rv_answering.specs.declared.answer.Answer.{Answer}
use Rattle.rv_answering.specs.declared.answer.Answer.TheVariants.{Pushed, Pulled}
use Rattle.rv_answering.specs.declared.request.Request.TheVariants.{Push, Pull}
use Rattle.rv_answering.specs.Requests.{Parsed}
use Rattle.rv_answering.specs.AnswerLaws.{pulled_same, went}
use Rattle.rv_answering.specs.Steps.{Handles}
use Rattle.rv_wire.specs.Answers.{pull_json}
use Rattle.rv_net.specs.declared.listen.Listen.{Ghosts as ListenGhosts}
use Rattle.rv_keeper.specs.declared.keeper.Keeper.{Ghosts}
use Rattle.rv_desk.specs.DeskStates.{DeskState, served}
use Rattle.rv_room.specs.declared.view.SeatView.{SeatView}
use Rattle.rv_cli.specs.Serving.{StandsIn, TurnsStand}
use Rattle.rv_laws.specs.Listeners.{FollowsIn, IsServedPull, ReadsIn, ServedClientsFollow, ServedPushesStand, ServedWritesAreRead, Together, turns_in}
use Rattle.rv_laws.proofs.Reading.{all_read, front_of}
use Rattle.rv_laws.proofs.Turns.{AllStand}
use Rattle.rv_turns.specs.Asks.{Sender, Ask}
use Rattle.rv_turns.specs.Outcomes.{refusal_of}
use Rattle.rv_turns.specs.declared.pushing.Outcome.{Outcome}
use Rattle.rv_turns.specs.declared.pushing.Outcome.TheVariants as outcomes
use Rattle.rv_turns.specs.declared.refusal.Refusal.{Refusal}
use Rattle.rv_turns.specs.Pushing.{Pushes}
use Rattle.rv_turns.specs.declared.mutation.Mutation.{Mutation}
use Rattle.rv_turns.specs.declared.pull.PullReply.{PullReply}
use Rattle.rv_turns.specs.declared.pull.PullRequest.{PullRequest}
use Rattle.rv_room.specs.SeatTurns.{IsSeatTurn}
use Rattle.rv_wire.specs.declared.push.Push as pushes

-- ---- Lists.

all_at : {X : Type 0} (Holds : X → Type 0) (xs : List X) (x : X) → AllByRecursion Holds xs → Contains xs x → Holds x
all_at Holds [] x all (k, lt, is) = absurd (omega arith)
all_at Holds (y ∷ ys) x all (zero, lt, is) = subst Holds is all.0
all_at Holds (y ∷ ys) x all (suc k, lt, is) = all_at Holds ys x all.1 (k, omega arith, is)

-- ---- A push by turns of a seat.

-- a push that is not refused goes on after each mutation
went_on : {S : Type 0} (takes : S → Ask → Outcome → S → Type 0) (from : Sender) (ms : List Mutation) (mid new : S) (later : Bool) (refused : Option Refusal)
    → MatchOption refused (Pushes takes from ms mid None later new) (λ why. (None ≡ Some why) × (later ≡ false) × (new ≡ mid)) → (refused ≡ None) × Pushes takes from ms mid None later new
went_on takes from ms mid new later None goes = (refl, goes)
went_on takes from ms mid new later (Some why) (is, none, same) = absurd (cc)

module _ {K : Type 0} (G : Ghosts K) (book : Book) (lawful : IsLawful book) (stand : MutationsStand pull_json) (from : Sender) where
  -- what a seat had seen is a front of what it has seen
  turn_grows : (m : Mutation) (old new : SeatView K) (outcome : Outcome) → IsSeatTurn G old (Ask.mutation from m) outcome new → Extends new.seen old.seen
  turn_grows m old new outcome turn =
      let (more, is) = turn_goes pull_json (Ask.mutation from m) outcome (served G.faults turn.desk) (served G.faults turn.now) turn.asks turn.keeps.doubt turn.takes.turn in
      extends_on new.seen turn.desk.book old.seen (more, turn.seen ∙ is) turn.begins

  turn_stands : (m : Mutation) (old new : SeatView K) (outcome : Outcome) → IsSeatTurn G old (Ask.mutation from m) outcome new → refusal_of outcome ≡ None → Extends book new.seen → 1 ≤ m.id → IsEntered from book m
  turn_stands m old new outcome turn none within first =
      let ask : Ask = Ask.mutation from m in
      let taken = turn.takes.turn in
      let step = step_of pull_json ask outcome (served G.faults turn.desk) (served G.faults turn.now) taken (no_trouble outcome none) in
      let later : Extends book turn.now.book = subst (λ (b : Book). Extends book b) turn.seen within in
      let (more, is) = extends_on book turn.now.book taken.settled later (goes_from pull_json ask outcome (served G.faults turn.desk) (served G.faults turn.now) turn.asks taken) in
      let front : IsLawful taken.settled = lawful_front taken.settled more (subst (λ (b : Book). IsLawful b) is lawful) in
      entered_on from m turn.now.book book later (stand turn.desk.limit from m taken.settled turn.now.book outcome step none front first)

  pushes_stand : (ms : List Mutation) (old new : SeatView K) (acted : Bool) → Pushes (IsSeatTurn G) from ms old None acted new → Extends book new.seen
      → Extends new.seen old.seen × AllByRecursion (λ m. 1 ≤ m.id → IsEntered from book m) ms
  pushes_stand [] old new acted (is, none, same) within = (extends_same new.seen old.seen (ap (λ (v : SeatView K). v.seen) same), tt)
  pushes_stand (m ∷ ms) old new acted (outcome, mid, later, turn, acts, rest) within =
      let (none, goes) = went_on (IsSeatTurn G) from ms mid new later (refusal_of outcome) rest in
      let (grows, all) = pushes_stand ms mid new later goes within in
      let here : Extends book mid.seen = extends_on book new.seen mid.seen within grows in
      (extends_on new.seen mid.seen old.seen grows (turn_grows m old mid outcome turn), (λ first. turn_stands m old mid outcome turn none here first, all))

step_stands : {K : Type 0} (G : Ghosts K) (book : Book) → IsLawful book → MutationsStand pull_json → (old new : SeatView K) (user : List ℕ) (push : pushes.Push)
    → Handles (IsSeatTurn G) old (Ok (Push user push)) Pushed new → Extends book new.seen → AllStand user push book
step_stands G book lawful stand old new user push (acted, inl wants) within = absurd (let no = wants.0 in cc)
step_stands G book lawful stand old new user push (acted, inr (refused, pushed, is)) within =
    let from : Sender = record { user = user; group = push.group } in
    (pushes_stand G book lawful stand from push.mutations old new acted (subst (λ (r : Option Refusal). Pushes (IsSeatTurn G) from push.mutations old r acted new) (went refused is) pushed) within).1

-- ---- A pull by a turn of a seat.

module _ {K : Type 0} (G : Ghosts K) (show : PullsShow pull_json) (book : Book) (user : List ℕ) where
  step_served : (pull : ClientPull) (old new : SeatView K) → Handles (IsSeatTurn G) old (Ok (Pull user pull.request)) (Pulled pull.reply) new → Extends book new.seen
      → IsServedPull G book user pull
  step_served pull old new (acted, inl wants) within = absurd (let no = wants.0 in cc)
  step_served pull old new (acted, inr (outcome, turn, is, none)) within =
      let ask : Ask = Ask.pull user pull.request in
      let here : IsSeatTurn G old ask (outcomes.Pulled pull.reply) new = subst (λ (o : Outcome). IsSeatTurn G old ask o new) (pulled_same pull.reply outcome is) turn in
      let taken = here.takes.turn in
      let step = step_of pull_json ask (outcomes.Pulled pull.reply) (served G.faults here.desk) (served G.faults here.now) taken refl in
      record {
        old = old;
        new = new;
        step = (acted, inr (outcome, turn, is, none));
        point = taken.settled;
        since = extends_on taken.settled here.desk.book old.seen (settles_go here.desk.book here.desk.doubt taken.settled here.keeps.doubt taken.settles) here.begins;
        tells = subst (λ (b : Book). ReplyShows pull_json user pull.request taken.settled b pull.reply) (sym here.seen) (show here.desk.limit user pull.request taken.settled here.now.book pull.reply step);
        within = within;
      }

  abbrev was_sent : (pull : ClientPull) → IsServedPull G book user pull → WasSent pull_json user book pull
  was_sent pull at = record { point = at.point; new = at.new.seen; tells = at.tells; within = at.within }

  abbrev all_told : (pulls : List ClientPull) → AllByRecursion (IsServedPull G book user) pulls → AllByRecursion (WasSent pull_json user book) pulls
  all_told [] served = tt
  all_told (pull ∷ pulls) (at, served) = (was_sent pull at, all_told pulls served)

  each_follows : (pulls : List ClientPull) (served : AllByRecursion (IsServedPull G book user) pulls) → EachCurrent pull_json user book pulls (all_told pulls served) → AllByRecursion (FollowsIn G book user) pulls
  each_follows [] served current = tt
  each_follows (pull ∷ pulls) (at, served) (current, rest) = (record { served = at; current = current }, each_follows pulls served rest)

  -- what each pull was answered by, among turns that stand in the book
  all_served : (turns : List (Parsed × Answer)) → AllByRecursion (StandsIn G book) turns → (pulls : List ClientPull) → AllByRecursion (λ pull. Contains turns (Ok (Pull user pull.request), Pulled pull.reply)) pulls
      → AllByRecursion (IsServedPull G book user) pulls
  all_served turns stand [] there = tt
  all_served turns stand (pull ∷ pulls) (there, rest) =
      let turn = all_at (StandsIn G book) turns (Ok (Pull user pull.request), Pulled pull.reply) stand there in
      (step_served pull turn.old turn.new turn.step turn.within, all_served turns stand pulls rest)

-- ---- A push that a pull reads.

-- the pull's point is a front of the book that its turn left
left_from : (user : List ℕ) (request : PullRequest) (point new : Book) (reply : PullReply) → ReplyShows pull_json user request point new reply → Extends new point
left_from user request point new reply tells = by reply.same refl
  where
    by : (b : Bool) → reply.same ≡ b → Extends new point
    by true same = extends_same new point (tells.stays same)
    by false other = let (order, cookie, is) = tells.looks other in (_, is)

reads_in : {K : Type 0} (G : Ghosts K) → PullsShow pull_json → (book : Book) → IsLawful book → MutationsStand pull_json → (user reader : List ℕ) (push : pushes.Push) (pull : ClientPull) → StandsIn G book (Ok (Push user push), Pushed) → IsServedPull G book reader pull
    → ReadsIn G book user reader push pull
reads_in G show book lawful stand user reader push pull at served = record {
  wrote = at;
  served = served;
  reads = λ le.
      let here : Extends book served.point = extends_on book served.new.seen served.point served.within (left_from reader pull.request served.point served.new.seen pull.reply served.tells) in
      let front : IsLawful served.point = lawful_front served.point here.0 (subst (λ (b : Book). IsLawful b) here.1 lawful) in
      all_read user push served.point front (step_stands G served.point front stand at.old at.new user push at.step (front_of book at.new.seen served.point at.within here le));
}

-- ---- All that is served.

module _ {K L I O : Type 0} (G : Ghosts K) (listen : ListenGhosts L I O) (source : SourceGhosts I) (sink : SinkGhosts O) (accounts : AccountsServed) (turns_stand : TurnsStand G listen source sink accounts) where
  abbrev turns : (opened : DeskState K) (givens : List L) (now : DeskState K) (backs : List L) → Together G listen source sink accounts opened givens now backs → List (Parsed × Answer)
  turns = turns_in G listen source sink accounts

  pub served_pushes_stand : MutationsStand pull_json → ServedPushesStand G listen source sink accounts
  served_pushes_stand stand opened now givens backs together sound user push there =
      let turn = all_at (StandsIn G now.book) (turns opened givens now backs together) (Ok (Push user push), Pushed) (turns_stand opened now givens backs together) there in
      step_stands G now.book sound.lawful stand turn.old turn.new user push turn.step turn.within

  pub served_clients_follow : PullsShow pull_json → ClientsFollow pull_json → ServedClientsFollow G listen source sink accounts
  served_clients_follow show follow opened now givens backs together sound fits user pulls client there =
      let served = all_served G show now.book user (turns opened givens now backs together) (turns_stand opened now givens backs together) pulls there in
      each_follows G show now.book user pulls served (follow user now.book pulls fits client (all_told G show now.book user pulls served))

  pub served_writes_are_read : MutationsStand pull_json → PullsShow pull_json → ServedWritesAreRead G listen source sink accounts
  served_writes_are_read stand show opened now givens backs together sound user reader push pull wrote read =
      let stood = turns_stand opened now givens backs together in
      let at = all_at (StandsIn G now.book) (turns opened givens now backs together) (Ok (Push user push), Pushed) stood wrote in
      let turn = all_at (StandsIn G now.book) (turns opened givens now backs together) (Ok (Pull reader pull.request), Pulled pull.reply) stood read in
      let served = step_served G show now.book reader pull turn.old turn.new turn.step turn.within in
      reads_in G show now.book sound.lawful stand user reader push pull at served

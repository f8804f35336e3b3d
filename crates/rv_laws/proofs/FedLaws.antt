-- What holds of each run of `feed`.
use Rattle.std.proofs.Common.{◌≡◌, ℕ, zero, suc, ◌-◌, ◌^◌, ◌<◌, ◌≤◌, inl, inr, List, [], ◌∷◌, ◌++◌, true, Option, Some, Ok, refl, sym, subst, arith}
use Rattle.std.specs.List.{AllByRecursion}
use Rattle.rv_base.specs.declared.outside.Source.{Ghosts as SourceGhosts}
use Rattle.rv_base.specs.declared.outside.Sink.{Ghosts as SinkGhosts}
use Rattle.rv_keeper.specs.declared.place.Place.{Ghosts as PlaceGhosts}
use Rattle.rv_keeper.specs.Stores.{TakesUp}
use Rattle.rv_book.specs.Book.{Book, size}
use Rattle.rv_history.specs.Clients.{ClientPull, ClientsFollowOn, EachCurrentIn, WasSentIn}
use Rattle.rv_history.specs.Succession.{ClosedBooksAreSuccessive, MutationsStay, books_of}
use Rattle.rv_history.specs.SuccessionLaws.{goes_on_through}
use Rattle.rv_wire.specs.Answers.{pull_json}
use Rattle.rv_history.specs.Properties.{ReplyShows}
use Rattle.rv_history.specs.Served.{Doubt, IsSound, Served, MayStand}
use Rattle.rv_answering.specs.declared.answer.Answer.{Answer}
use Rattle.rv_answering.specs.declared.answer.Answer.TheVariants.{Pulled, Pushed}
use Rattle.rv_answering.specs.declared.line.Line.{Line}
use Rattle.rv_answering.specs.declared.line.Line.TheVariants.{Asks}
use Rattle.rv_answering.specs.declared.request.Request.TheVariants.{Pull, Push}
use Rattle.rv_answering.specs.Requests.{Parsed}
use Rattle.rv_cli.specs.Change.{StoreChange, change}
use Rattle.rv_cli.specs.Headline.{Begins, BooksAreLawful, IsLawfulFeed, IsShown, PullsAreShown, Run, StepsShow, StepsStand, TroublesHaveCauses}
use Rattle.rv_cli.specs.RunLaws.{run_later}
use Rattle.rv_laws.specs.Feeds.{FeedsKeepLawful, FedBooksAreLawful, FedPullsAreShown, FedTroublesHaveCauses, FedPushesStand, FedClientsFollow, FedWritesAreRead, IsTurn, IsPull, EachFollows}
use Rattle.rv_laws.proofs.LawfulRuns.{settling_goes}
use Rattle.rv_laws.proofs.Reading.{all_read, lawful_settled}
use Rattle.rv_laws.proofs.Turns.{At, Yes, all_stay, each_shorter, run_goes, turn_at, AllStand}
use Rattle.rv_turns.specs.declared.pull.PullRequest.{PullRequest}
use Rattle.rv_turns.specs.declared.pull.PullReply.{PullReply}

-- what opens is sound
begins_sound : (c : StoreChange) (first : Served) → Begins c first → IsSound first
begins_sound c first begins = record {
  lawful = begins.opens.sound.lawful;
  within = subst (λ (n : ℕ). size first.book ≤ n) (sym begins.limit) begins.opens.sound.within;
  next = subst (λ (d : Doubt). MayStand first.book first.limit d) (sym begins.doubt) tt;
}

-- a run in which what is kept is told, whatever tells it
module _ (Told : Type 0) (first now : Served) (lines : List Line) (answers : List (Option Answer)) where
  told_run : Told → Run Told first lines answers now → Run Yes first lines answers now
  told_run told run = run_later Told Yes (λ yes. told) lines answers first now run

  -- split at a turn
  run_at : (asked : Parsed) (answer : Answer) (turn : IsTurn lines answers asked answer) → Run Yes first lines answers now → Run Yes first (turn.before ++ Asks asked ∷ turn.after) (turn.answered ++ Some answer ∷ turn.others) now
  run_at asked answer turn run =
      subst (λ (l : List Line). Run Yes first l (turn.answered ++ Some answer ∷ turn.others) now) turn.asks
      (subst (λ (a : List (Option Answer)). Run Yes first lines a now) turn.told run)

  lawful : BooksAreLawful → Told → Run Told first lines answers now → IsSound first → IsLawfulFeed Told first now
  lawful law told run sound =
      let is = law true first now lines answers (told_run told run) sound in
      record { sound = is.sound; more = λ told. is.more refl; ids = is.ids; orders = is.orders; later = is.later; limit = is.limit }

  shown : PullsAreShown → Told → Run Told first lines answers now → IsSound first → (asked : Parsed) (reply : PullReply) (turn : IsTurn lines answers asked (Pulled reply)) → IsShown Told first now turn.before turn.answered asked reply
  shown law told run sound asked reply turn =
      let is = law true first now turn.before turn.after turn.answered turn.others asked reply sound turn.same (run_at asked (Pulled reply) turn (told_run told run)) in
      record {
        point = is.point;
        new = is.new;
        settled = is.settled;
        run = run_later Yes Told (λ told. refl) turn.before turn.answered first is.point is.run;
        step = is.step;
        settles = is.settles;
        shows = is.shows;
        here = is.here;
        on = λ told. is.on refl;
      }

-- ---- Clients.

same_pull : (asked : Parsed) (user user' : List ℕ) (request request' : PullRequest) → asked ≡ Ok (Pull user request) → asked ≡ Ok (Pull user' request') → (user' ≡ user) × (request' ≡ request)
same_pull asked user user' request request' one other = (cc, cc)

module _ (Told : Type 0) (first now : Served) (lines : List Line) (answers : List (Option Answer)) (user : List ℕ) (told : Told) (law : BooksAreLawful) (show : StepsShow) (sound : IsSound first) (run : Run Told first lines answers now) where
  abbrev yes : Run Yes first lines answers now
  yes = told_run Told first now lines answers told run

  -- the books of the run
  abbrev closings : List (Book × Book)
  closings = (run_goes law first now lines answers yes sound).0

  at_turn : (asked : Parsed) (answer : Answer) (turn : IsTurn lines answers asked answer) → At first now turn.before turn.answered asked answer closings
  at_turn asked answer turn =
      subst (λ (ls : List Line). (r : Run Yes first ls answers now) → At first now turn.before turn.answered asked answer (run_goes law first now ls answers r sound).0) (sym turn.asks)
      (subst (λ (told : List (Option Answer)). (r : Run Yes first (turn.before ++ Asks asked ∷ turn.after) told now) → At first now turn.before turn.answered asked answer (run_goes law first now (turn.before ++ Asks asked ∷ turn.after) told r sound).0) (sym turn.told)
      (λ r. turn_at law first now turn.before turn.after turn.answered turn.others asked answer sound turn.same r)) yes

  abbrev OnPull : ClientPull → Type 0
  OnPull pull = IsPull Told first now lines answers user pull

  abbrev here : (pull : ClientPull) (turn : OnPull pull) → At first now turn.before turn.answered (Ok (Pull user pull.request)) (Pulled pull.reply) closings
  here pull turn = at_turn (Ok (Pull user pull.request)) (Pulled pull.reply) turn

  abbrev shown_at : (pull : ClientPull) (turn : OnPull pull) → IsShown Told first now turn.before turn.answered (Ok (Pull user pull.request)) pull.reply
  shown_at pull turn =
      let at = here pull turn in
      let (settled, settles, shows, goes) = show at.point at.new (Ok (Pull user pull.request)) pull.reply at.takes.step in
      record {
        point = at.point;
        new = at.new;
        settled = settled;
        run = run_later Yes Told (λ told. refl) turn.before turn.answered first at.point at.run;
        step = at.takes.step;
        settles = settles;
        shows = shows;
        here = goes;
        on = λ told. at.more;
      }

  tells_at : (pull : ClientPull) (turn : OnPull pull) → ReplyShows pull_json user pull.request (shown_at pull turn).settled (here pull turn).new.book pull.reply
  tells_at pull turn =
      let at = shown_at pull turn in
      let shows = at.shows in
      let (who, what) = same_pull (Ok (Pull user pull.request)) user shows.user pull.request shows.request refl shows.asks in
      subst (λ (u : List ℕ). ReplyShows pull_json u pull.request at.settled (here pull turn).new.book pull.reply) who
      (subst (λ (r : PullRequest). ReplyShows pull_json shows.user r at.settled (here pull turn).new.book pull.reply) what shows.tells)

  abbrev books : List Book
  books = books_of closings now.book

  abbrev was_sent : (pull : ClientPull) → OnPull pull → WasSentIn pull_json user books pull
  was_sent pull turn = record {
    book = (here pull turn).book;
    among = (here pull turn).among;
    sent = record { point = (shown_at pull turn).settled; new = (here pull turn).new.book; tells = tells_at pull turn; within = (here pull turn).within };
  }

  abbrev all_told : (pulls : List ClientPull) → AllByRecursion OnPull pulls → AllByRecursion (WasSentIn pull_json user books) pulls
  all_told [] turns = tt
  all_told (pull ∷ pulls) (turn, turns) = (was_sent pull turn, all_told pulls turns)

  each_follows : (pulls : List ClientPull) (turns : AllByRecursion OnPull pulls) → EachCurrentIn pull_json user books pulls (all_told pulls turns) → EachFollows Told first now lines answers user pulls turns
  each_follows [] turns current = tt
  each_follows (pull ∷ pulls) (turn, turns) (current, rest) = (record { shown = shown_at pull turn; current = current }, each_follows pulls turns rest)

each_fits : (books : List Book) (most : ℕ) → most < 2 ^ 64 → AllByRecursion (λ book. size book ≤ most) books → AllByRecursion (λ book. size book < 2 ^ 64) books
each_fits [] most small all = tt
each_fits (book ∷ books) most small (one, all) = (omega (arith, one, small), each_fits books most small all)

-- ---- The laws.

-- a count that stayed below its last value is that of a keeper that did not fail
pub no_fault : (kept before after faults : ℕ) → TakesUp kept before after → after ≡ before → before < 2 ^ 64 - 1 → faults ≤ kept → faults ≡ 0
no_fault zero before after faults taken stays below le = omega arith
no_fault (suc kept) before after faults taken stays below le = absurd (omega (arith, taken))

module _ {P K : Type 0} (place : PlaceGhosts P K) where
  pub feeds_keep_lawful : {S O : Type 0} (input : SourceGhosts S) (output : SinkGhosts O) → BooksAreLawful → FeedsKeepLawful place input output
  feeds_keep_lawful input output law old new store read read' out out' status (ending, is, inl refused) told = inl (ending, is, refused.0, refused.1)
  feeds_keep_lawful input output law old new store read read' out out' status (ending, is, inr fed) told =
      let (lines, answers, run) = fed.reached in
      inr (record {
        first = fed.first;
        now = fed.now;
        begins = fed.begins;
        lawful = lawful (place.tells new) fed.first fed.now lines answers law told run (begins_sound (change place store old new) fed.first fed.begins);
        leaves = fed.leaves;
      })

  pub books_are_lawful : BooksAreLawful → FedBooksAreLawful place
  books_are_lawful law old new store bytes output output' run = lawful (place.tells new) run.first run.now run.lines run.answers law run.told run.run (begins_sound (change place store old new) run.first run.begins)

  pub pulls_are_shown : PullsAreShown → FedPullsAreShown place
  pulls_are_shown law old new store bytes output output' run = shown (place.tells new) run.first run.now run.lines run.answers law run.told run.run (begins_sound (change place store old new) run.first run.begins)

  pub troubles_have_causes : TroublesHaveCauses → FedTroublesHaveCauses place
  troubles_have_causes law old new store bytes output output' run stays below =
      law true run.first run.now run.lines run.answers (told_run (place.tells new) run.first run.now run.lines run.answers run.told run.run)
      (no_fault run.leaves.kept (place.faults old) (place.faults new) run.now.faults run.leaves.taken stays below run.leaves.later)

  pub pushes_stand : BooksAreLawful → StepsStand → MutationsStay → FedPushesStand place
  pushes_stand law stand stay old new store bytes output output' run user push turn =
      let sound = begins_sound (change place store old new) run.first run.begins in
      let first = run.first in
      let at = turn_at law first run.now turn.before turn.after turn.answered turn.others _ _ sound turn.same
      (run_at (place.tells new) first run.now run.lines run.answers _ _ turn (told_run (place.tells new) first run.now run.lines run.answers run.told run.run)) in
      all_stay stay (record { user = user; group = push.group }) push.mutations at.new.book run.now.book at.lawful at.more (stand at.point at.new user push at.sound at.takes.step)

  pub clients_follow : BooksAreLawful → StepsShow → ClosedBooksAreSuccessive → ClientsFollowOn pull_json → FedClientsFollow place
  clients_follow law show successive follow old new store bytes output output' run user pulls client turns =
      let sound = begins_sound (change place store old new) run.first run.begins in
      let first = run.first in
      let kept = lawful (place.tells new) first run.now run.lines run.answers law run.told run.run sound in
      let limit : run.now.limit ≡ 2 ^ 32 - 1 = kept.limit run.begins.limit in
      let within : size run.now.book ≤ run.now.limit = kept.sound.within in
      let goes = run_goes law first run.now run.lines run.answers (told_run (place.tells new) first run.now run.lines run.answers run.told run.run) sound in
      let one = successive first.book run.now.book goes.0 goes.1 in
      each_follows (place.tells new) first run.now run.lines run.answers user run.told law show sound run.run pulls turns
      (follow user (books_of goes.0 run.now.book) pulls one (each_fits (books_of goes.0 run.now.book) (size run.now.book) (omega (arith, limit, within)) (each_shorter run.now.book goes.0 one)) client
      (all_told (place.tells new) first run.now run.lines run.answers user run.told law show sound run.run pulls turns))

  pub writes_are_read : BooksAreLawful → PullsAreShown → StepsStand → MutationsStay → FedWritesAreRead place
  writes_are_read law show stand stay old new store bytes output output' run user reader push request reply read wrote =
      let sound = begins_sound (change place store old new) run.first run.begins in
      let is = shown (place.tells new) run.first run.now run.lines run.answers show run.told run.run sound (Ok (Pull reader request)) reply read in
      let before : Run Yes run.first read.before read.answered is.point = told_run (place.tells new) run.first is.point read.before read.answered run.told is.run in
      let kept = law true run.first is.point read.before read.answered before sound in
      let at = turn_at law run.first is.point wrote.before wrote.after wrote.answered wrote.others (Ok (Push user push)) Pushed sound wrote.same
      (run_at (place.tells new) run.first is.point read.before read.answered (Ok (Push user push)) Pushed wrote before) in
      let goes = goes_on_through at.new.book is.point.book is.settled at.more (settling_goes is.point.limit is.point.book is.settled is.point.doubt kept.sound.next is.settles) in
      let stands : AllStand user push is.settled =
      all_stay stay (record { user = user; group = push.group }) push.mutations at.new.book is.settled at.lawful goes (stand at.point at.new user push at.sound at.takes.step) in
      record { shown = is; reads = all_read user push is.settled (lawful_settled is.point.book is.settled is.point.limit is.point.doubt kept.sound.lawful kept.sound.next is.settles) stands }

-- One line: what becomes of it by what it asks, and the desk that is opened again at a stop.
use Rattle.std.proofs.Common.{◌≡◌, ℕ, ◌≤◌, List, Some, None, Result, Ok, Err, refl, sym, ap, ◌∙◌, subst, arith}
use Rattle.rv_base.specs.Outside.{OutputState, Writes}
use Rattle.rv_book.specs.Book.{Book, size}
use Rattle.rv_history.specs.Served.{Doubt, MayStand, TakesTurn}
use Rattle.rv_history.specs.TurnLaws.{still_of}
use Rattle.rv_keeper.specs.declared.keeper.Keeper.{Ghosts}
use Rattle.rv_desk.specs.DeskStates.{DeskKeeps, DeskTakes, IsSoundDesk, DeskState, served}
use Rattle.rv_desk.specs.Opened.{OpensAgain, StaysAsItWas}
use Rattle.rv_desk.specs.declared.open_fault.OpenFault.{OpenFault}
use Rattle.rv_desk.specs.declared.open_fault.OpenFault.TheVariants as faulting
use Rattle.rv_answering.specs.declared.answer.Answer.{Answer}
use Rattle.rv_answering.specs.declared.line.Line.{Line}
use Rattle.rv_answering.specs.declared.line.Line.TheVariants.{Asks, Stop}
use Rattle.rv_answering.specs.Reads.{IsReading, IsLineRead, AreLines}
use Rattle.rv_answering.specs.Requests.{Parsed, line_of}
use Rattle.rv_answering.specs.StepLaws.{shown_takes, handled_shown}
use Rattle.rv_answering.specs.StepMapLaws.{map_handled}
use Rattle.rv_answering.specs.Steps as steps
use Rattle.rv_cli.specs.declared.ending.Ending.{Ending}
use Rattle.rv_cli.specs.declared.ending.Ending.TheVariants.{Done, Keeper, Damaged, Read, Write, Memory, Malformed}
use Rattle.rv_cli.specs.Texts.{fault_ending, text_of}
use Rattle.rv_cli.specs.Headline.{TakesStep, AnswersChange}
use Rattle.rv_cli.specs.LineTaking.{TakesLine}
use Rattle.rv_cli.specs.Replying.{Replies}
use Rattle.rv_cli.specs.Steadiness.{DeskKeepsSteady, LineKeepsSteady}
use Rattle.rv_cli.specs.Feeding.{Restarts, RestartsOrNot, ServesOrNot, StandsAs, desk_taker}
use Rattle.rv_cli.specs.RunLaws.{desk_stands}
use Rattle.rv_cli.specs.TroubleLaws.{any_step_causes, takes_cause}
use Rattle.rv_turns.specs.Asks.{Ask}
use Rattle.rv_turns.specs.Outcomes.{IsChanged, trouble_of}
use Rattle.rv_turns.specs.declared.pushing.Outcome.{Outcome}
use Rattle.rv_wire.specs.Answers.{pull_json}

none_next : (book : Book) (limit : ℕ) (doubt : Doubt) → doubt ≡ None → MayStand book limit doubt
none_next book limit None none = tt
none_next book limit (Some next) none = absurd (cc)

module _ {K : Type 0} (G : Ghosts K) where
  -- ---- A stop.

  pub restarted : (old new : DeskState K) → OpensAgain G old new → Restarts G old new
  restarted old new again = (
    record {
      sound = record {
        lawful = again.opens.opens.sound.lawful;
        within = subst (λ (n : ℕ). size new.book ≤ n) (sym again.opens.most) again.opens.opens.sound.within;
        next = none_next new.book new.limit new.doubt again.opens.doubt;
      };
      limit = again.opens.most;
      doubt = again.opens.doubt;
      faults = again.opens.still;
      settled = again.settled;
    },
    again.opens.told,
  )

  stands_still : (old new : DeskState K) (fault : OpenFault) → StaysAsItWas G old fault new → StandsAs G.faults (served G.faults old) new
  stands_still old new fault stays = record { book = stays.book; limit = stays.limit; doubt = stays.doubt; later = stays.left.later }

  pub not_restarted : (old new : DeskState K) (fault : OpenFault) → StaysAsItWas G old fault new → RestartsOrNot G old (Err (fault_ending fault)) new
  not_restarted old new faulting.Keeper stays = (tt, stands_still old new faulting.Keeper stays, stays.left.told, stays.why.0)
  not_restarted old new (faulting.Damaged damage) stays = (tt, stands_still old new (faulting.Damaged damage) stays, stays.left.told, stays.sound damage refl)
  not_restarted old new faulting.Memory stays = (tt, stands_still old new faulting.Memory stays, stays.left.told, tt)

  pub restarted_steady : (old new : DeskState K) → OpensAgain G old new → G.fails_no_more old.keeper → DeskKeepsSteady G.fails_no_more G.faults old.keeper new.keeper
  restarted_steady old new again f = (again.opens.goes_on f, again.opens.still)

  pub refused_steady : (old new : DeskState K) (fault : OpenFault) → StaysAsItWas G old fault new → G.fails_no_more old.keeper → LineKeepsSteady (G.fails_no_more new.keeper) (G.faults old.keeper) (G.faults new.keeper) (Err (fault_ending fault))
  refused_steady old new faulting.Keeper stays f = absurd (stays.why.1 f)
  refused_steady old new (faulting.Damaged damage) stays f = ((stays.left.goes_on f, stays.why.still), λ e. absurd (cc))
  refused_steady old new faulting.Memory stays f = ((stays.left.goes_on f, stays.why), λ e. absurd (cc))

  -- ---- Turns of a desk.

  -- the keeper of a desk tells only if it told, and one that fails no more goes on so, with no fault
  pub record Before (old new : DeskState K) : Type 0 where
    pub told : G.tells new.keeper → G.tells old.keeper
    pub steady : G.fails_no_more old.keeper → DeskKeepsSteady G.fails_no_more G.faults old.keeper new.keeper

  before_same : (s : DeskState K) → Before s s
  before_same s = record { told = λ t. t; steady = λ f. (f, refl) }

  before_on : (s t u : DeskState K) → Before s t → Before t u → Before s u
  before_on s t u first next = record { told = λ x. first.told (next.told x); steady = λ f. let (g, same) = first.steady f in let (h, also) = next.steady g in (h, also ∙ same) }

  -- a turn as one of its server, with what is known besides
  abbrev pub desk_takes : DeskState K → Ask → Outcome → DeskState K → Type 0
  desk_takes old ask outcome new = TakesTurn pull_json (served G.faults old) ask outcome (served G.faults new) × Before old new × (IsChanged (trouble_of outcome) → G.tells new.keeper → ⊥)

  pub turn_before : (old new : DeskState K) (ask : Ask) (outcome : Outcome) → DeskTakes G old ask outcome new → Before old new
  turn_before old new ask outcome takes = record {
    told = takes.assured.told;
    steady = λ f. (takes.assured.goes_on f, still_of pull_json ask outcome (served G.faults old) (served G.faults new) takes.turn (takes.assured.sure f));
  }

  turn_takes : (old new : DeskState K) (ask : Ask) (outcome : Outcome) → DeskTakes G old ask outcome new → desk_takes old ask outcome new
  turn_takes old new ask outcome takes = (takes.turn, turn_before old new ask outcome takes, λ changed told. takes.assured.near told changed)

  desk_goes : (old new : DeskState K) (asked : Parsed) (answer : Answer)
      → steps.Handles desk_takes old asked answer new → steps.Handles (TakesTurn pull_json) (served G.faults old) asked answer (served G.faults new) × Before old new
  desk_goes old new asked answer step = handled_shown (served G.faults) Before before_same before_on (TakesTurn pull_json) old new asked answer
      (map_handled desk_takes (shown_takes (served G.faults) Before before_same before_on (TakesTurn pull_json))
      (λ old new ask outcome takes. (takes.0, takes.1))
      old new asked answer step)

  -- a turn tells that another changed what is kept only where its keeper does not tell
  desk_near : (old new : DeskState K) (asked : Parsed) (answer : Answer) → steps.Handles desk_takes old asked answer new
      → (G.tells new.keeper → G.tells old.keeper) × (AnswersChange (Some answer) → G.tells new.keeper → ⊥)
  desk_near = any_step_causes (λ found. IsChanged (Some found)) desk_takes (λ (old new : DeskState K). G.tells new.keeper → G.tells old.keeper) (λ (old new : DeskState K). G.tells new.keeper → ⊥)
      (λ s t. t) (λ s t u first next told. first (next told)) (λ s t u goes rises. rises)
      (λ ask old new outcome takes. (takes.1.told, λ (found, is, changed) told. takes.2 (subst IsChanged (sym is) changed) told))

  -- what a desk handles, by what a keeper shows
  pub desk_handles : (old new : DeskState K) (asked : Parsed) (answer : Answer) → steps.Handles (DeskTakes G) old asked answer new → TakesStep (G.tells new.keeper) (served G.faults old) asked answer (served G.faults new) × Before old new
  desk_handles old new asked answer handled =
      let step : steps.Handles desk_takes old asked answer new = map_handled (DeskTakes G) desk_takes turn_takes old new asked answer handled in
      let goes = desk_goes old new asked answer step in
      (record { step = goes.0; near = λ told change. (desk_near old new asked answer step).1 change told }, goes.1)

  -- the answer to one request, with the keeper of the desk that is closed then
  pub desk_replies : (old new : DeskState K) (keeper : K) (asked : Parsed) (answer : Answer) → steps.Handles (DeskTakes G) old asked answer new → keeper ≡ new.keeper → DeskKeeps G new → IsSoundDesk new → Replies G old (Asks asked) (answer, keeper)
  desk_replies old new keeper asked answer handled same kept sound =
      let (step, before) = desk_handles old new asked answer handled in
      subst (λ (k : K). Replies G old (Asks asked) (answer, k)) (sym same) (record { new = served G.faults new; step = step; left = record { kept = kept; sound = record { book = sound.book; small = sound.small; fits = sound.fits; next = sound.next }; later = omega arith }; before = before.told })

  pub replies_steady : (old new : DeskState K) (keeper : K) (asked : Parsed) (answer : Answer) → steps.Handles (DeskTakes G) old asked answer new → keeper ≡ new.keeper → G.fails_no_more old.keeper → G.fails_no_more keeper × (G.faults keeper ≡ G.faults old.keeper)
  replies_steady old new keeper asked answer handled same f =
      let (goes, still) = (desk_handles old new asked answer handled).1.steady f in
      (subst G.fails_no_more (sym same) goes, ap G.faults same ∙ still)

  pub answered_whole : {E : Type 0} (old new : DeskState K) (asked : Parsed) (answer : Answer) (before now : OutputState) (result : Result (Unit {0}) E) → result ≡ Ok tt → steps.Handles (DeskTakes G) old asked answer new
      → Writes before now result (text_of answer) → ServesOrNot G old asked (Ok tt) new before now
  answered_whole {E} old new asked answer before now result is handled w =
      let all = subst (λ (r : Result (Unit {0}) E). Writes before now r (text_of answer)) is w in
      let (step, goes) = desk_handles old new asked answer handled in
      ((answer, step, all.bytes), record { faults = all.cause.still; refusals = all.memory.still }, goes.told)

  pub answered_front : {T E : Type 0} (old new : DeskState K) (asked : Parsed) (answer : Answer) (before now : OutputState) (result : Result T E) (fault : E) → result ≡ Err fault → steps.Handles (DeskTakes G) old asked answer new
      → Writes before now result (text_of answer) → ServesOrNot G old asked (Err Write) new before now
  answered_front {T} {E} old new asked answer before now result fault is handled w =
      let part = subst (λ (r : Result T E). Writes before now r (text_of answer)) is w in
      let (step, goes) = desk_handles old new asked answer handled in
      ((answer, step, part.bytes), part.cause.failed, goes.told)

  -- ---- A line.

  -- one that asks something
  lines_ask : (line : List ℕ) (read : Parsed) → AreLines (line_of line) (Some (Asks read)) → (asked : Parsed) × (line_of line ≡ Some (Asks asked)) × IsReading asked read
  lines_ask line read lines = elim (line_of line) as (λ o. line_of line ≡ o → AreLines o (Some (Asks read)) → (asked : Parsed) × (line_of line ≡ Some (Asks asked)) × IsReading asked read) [
    | None ↦ λ e h. absurd h
    | Some l ↦ λ e h. asks_of l e h
  ] refl lines
    where
      asks_of : (l : Line) → line_of line ≡ Some l → IsLineRead l (Asks read) → (asked : Parsed) × (line_of line ≡ Some (Asks asked)) × IsReading asked read
      asks_of (Asks asked) e h = (asked, e, h)
      asks_of Stop e h = absurd h

  lines_stop : (line : List ℕ) → AreLines (line_of line) (Some Stop) → line_of line ≡ Some Stop
  lines_stop line lines = elim (line_of line) as (λ o. line_of line ≡ o → AreLines o (Some Stop) → line_of line ≡ Some Stop) [
    | None ↦ λ e h. absurd h
    | Some l ↦ λ e h. stop_of l e h
  ] refl lines
    where
      stop_of : (l : Line) → line_of line ≡ Some l → IsLineRead l Stop → line_of line ≡ Some Stop
      stop_of (Asks asked) e h = absurd h
      stop_of Stop e h = e

  answered_line : (old new : DeskState K) (line : List ℕ) (number : ℕ) (asked : Parsed) (result : Result (Unit {0}) Ending) (before now : OutputState) → line_of line ≡ Some (Asks asked) → ServesOrNot G old asked result new before now → TakesLine (desk_taker G) old line number result new before now
  answered_line old new line number asked (Ok done) before now is ((answer, step, appended), counts, told) = record {
    goes = record { answer = Some answer; step = record { taken = Asks asked; asks = is; step = step }; adds = (appended, counts) };
    told = told;
    later = (takes_cause (G.tells new.keeper) (served G.faults old) (served G.faults new) (Asks asked) (Some answer) step).0;
  }
  answered_line old new line number asked (Err Write) before now is ((answer, step, front), rose, told) = record {
    new = served G.faults new;
    ends = record { answer = answer; step = record { taken = Asks asked; asks = is; step = step }; front = front; rose = rose };
    stands = desk_stands G.faults new;
    told = told;
    rose = tt;
  }
  answered_line old new line number asked (Err Done) before now is never = absurd never
  answered_line old new line number asked (Err Keeper) before now is never = absurd never
  answered_line old new line number asked (Err (Damaged damage)) before now is never = absurd never
  answered_line old new line number asked (Err Read) before now is never = absurd never
  answered_line old new line number asked (Err Memory) before now is never = absurd never
  answered_line old new line number asked (Err (Malformed n)) before now is never = absurd never

  pub takes_asked : (old new : DeskState K) (line : List ℕ) (number : ℕ) (read : Parsed) (result : Result (Unit {0}) Ending) (before now : OutputState) → AreLines (line_of line) (Some (Asks read))
      → ((asked : Parsed) → IsReading asked read → ServesOrNot G old asked result new before now) → TakesLine (desk_taker G) old line number result new before now
  takes_asked old new line number read result before now lines serves =
      let (asked, is, reading) = lines_ask line read lines in
      answered_line old new line number asked result before now is (serves asked reading)

  stopped_line : (old new : DeskState K) (line : List ℕ) (number : ℕ) (result : Result (Unit {0}) Ending) (out : OutputState) → line_of line ≡ Some Stop → RestartsOrNot G old result new → TakesLine (desk_taker G) old line number result new out out
  stopped_line old new line number (Ok done) out stop (reopens, told) = record {
    goes = record { answer = None; step = record { taken = Stop; asks = stop; step = reopens }; adds = refl };
    told = told;
    later = let n = reopens.faults in omega (arith, n);
  }
  stopped_line old new line number (Err Keeper) out stop (is, stands, told, rose) = record { new = served G.faults old; ends = (stop, refl, refl); stands = stands; told = told; rose = rose }
  stopped_line old new line number (Err (Damaged damage)) out stop (is, stands, told, rose) = record { new = served G.faults old; ends = (stop, refl, refl); stands = stands; told = told; rose = rose }
  stopped_line old new line number (Err Memory) out stop (is, stands, told, rose) = record { new = served G.faults old; ends = (refl, refl); stands = stands; told = told; rose = rose }
  stopped_line old new line number (Err Done) out stop (never, stands, told, rose) = absurd never
  stopped_line old new line number (Err Read) out stop (never, stands, told, rose) = absurd never
  stopped_line old new line number (Err Write) out stop (never, stands, told, rose) = absurd never
  stopped_line old new line number (Err (Malformed n)) out stop (never, stands, told, rose) = absurd never

  pub takes_stop : (old new : DeskState K) (line : List ℕ) (number : ℕ) (result : Result (Unit {0}) Ending) (out : OutputState) → AreLines (line_of line) (Some Stop) → RestartsOrNot G old result new → TakesLine (desk_taker G) old line number result new out out
  takes_stop old new line number result out lines restarts = stopped_line old new line number result out (lines_stop line lines) restarts

  -- ---- What fails no more.

  pub served_steady : (old new : DeskState K) (asked : Parsed) (answer : Answer) → steps.Handles (DeskTakes G) old asked answer new → G.fails_no_more old.keeper → DeskKeepsSteady G.fails_no_more G.faults old.keeper new.keeper
  served_steady old new asked answer handled f = (desk_handles old new asked answer handled).1.steady f

  pub asked_steady : (old new : DeskState K) (line : List ℕ) (read : Parsed) (result : Result (Unit {0}) Ending) (before now : OutputState) → AreLines (line_of line) (Some (Asks read)) → ((asked : Parsed) → IsReading asked read → ServesOrNot G old asked result new before now)
      → ((asked : Parsed) → IsReading asked read → G.fails_no_more old.keeper → DeskKeepsSteady G.fails_no_more G.faults old.keeper new.keeper) → G.fails_no_more old.keeper → LineKeepsSteady (G.fails_no_more new.keeper) (G.faults old.keeper) (G.faults new.keeper) result
  asked_steady old new line read (Ok done) before now lines serves steady f = let (asked, is, reading) = lines_ask line read lines in steady asked reading f
  asked_steady old new line read (Err Write) before now lines serves steady f = let (asked, is, reading) = lines_ask line read lines in (steady asked reading f, λ e. absurd (cc))
  asked_steady old new line read (Err Done) before now lines serves steady f = let (asked, is, reading) = lines_ask line read lines in absurd (serves asked reading)
  asked_steady old new line read (Err Keeper) before now lines serves steady f = let (asked, is, reading) = lines_ask line read lines in absurd (serves asked reading)
  asked_steady old new line read (Err (Damaged damage)) before now lines serves steady f = let (asked, is, reading) = lines_ask line read lines in absurd (serves asked reading)
  asked_steady old new line read (Err Read) before now lines serves steady f = let (asked, is, reading) = lines_ask line read lines in absurd (serves asked reading)
  asked_steady old new line read (Err Memory) before now lines serves steady f = let (asked, is, reading) = lines_ask line read lines in absurd (serves asked reading)
  asked_steady old new line read (Err (Malformed number)) before now lines serves steady f = let (asked, is, reading) = lines_ask line read lines in absurd (serves asked reading)

-- From the promise of `import` to the run that there was, and of two such runs over one store.
use Rattle.std.proofs.Common.{◌≡◌, ◌⊎◌, ℕ, List, [], ◌∷◌, ◌++◌, Option, Some, None, IfSome, Result, Ok, Err, refl, sym, ap, ◌∙◌, subst, arith, inl, inr, append-nil}
use Rattle.std.specs.Io.KnownBytes.{Consumes, IsAtEnd}
use Rattle.rv_base.specs.Outside.{InputState, OutputState}
use Rattle.rv_base.specs.declared.outside.Source.{Ghosts as SourceGhosts}
use Rattle.rv_base.specs.declared.outside.Sink.{Ghosts as SinkGhosts}
use Rattle.rv_keeper.specs.declared.place.Place.{Ghosts as PlaceGhosts}
use Rattle.rv_turns.specs.Asks.{Ask, Sender}
use Rattle.rv_turns.specs.Outcomes.{trouble_of}
use Rattle.rv_turns.specs.declared.mutation.Mutation.{Mutation}
use Rattle.rv_turns.specs.declared.pushing.Outcome.{Outcome}
use Rattle.rv_turns.specs.declared.refusal.Trouble.{Trouble}
use Rattle.rv_wire.specs.Answers.{pull_json}
use Rattle.rv_book.specs.Book.{Book}
use Rattle.rv_history.specs.Served.{Doubt, Served, Settles, TakesTurn, TurnOf, with_doubt}
use Rattle.rv_history.specs.TurnLaws.{no_trouble}
use Rattle.rv_import.specs.ActsOnce.{HasAll, HasFirst, ImportsActOnce, ImportsAddNothing, StartsFirst}
use Rattle.rv_import.specs.Imports.{Asked, asked_of}
use Rattle.rv_import.specs.Importing.{AreDone, Imported, Imports, TakesInOrder, importer}
use Rattle.rv_import.specs.declared.import_end.ImportEnd.{ImportEnd}
use Rattle.rv_import.specs.declared.import_end.ImportEnd.TheVariants as ends
use Rattle.rv_cli.specs.declared.import_ending.ImportEnding.{ImportEnding}
use Rattle.rv_cli.specs.Importing.{ImportsInput, TakesNear, WritesCame}
use Rattle.rv_cli.specs.ImportLaws.{unread_fails}
use Rattle.rv_cli.specs.Texts.{import_status}
use Rattle.rv_laws.specs.Feeds.{DidNotOpen}
use Rattle.rv_laws.specs.Imports.{ImportRun, ImportsAreRuns, ImportsEnterOnce, ImportsOrNot, IsThrough}
use Rattle.rv_laws.specs.Stores.{RunsGoOn}

-- ---- The run that there was.

-- what is read to the end of known bytes is all of them
read_all : (bytes read : List ℕ) (left : Option (List ℕ)) → Consumes (Some bytes) left read → IsAtEnd left → read ≡ bytes
read_all bytes read None never end = absurd never
read_all bytes read (Some more) is end = sym (is ∙ ap (λ (l : List ℕ). read ++ l) end ∙ append-nil read)

-- a status 0 tells that each record was entered or skipped
through_at : (end : ImportEnd) (ending : ImportEnding) (status : ℕ) (old new : OutputState) → status ≡ import_status ending → WritesCame old new (Ok end) ending → status ≡ 0 → IsThrough end
through_at (ends.Done counts) ending status old new is writes none = tt
through_at ends.TooLarge ending status old new is (same, text) none = let told : status ≡ 11 = is ∙ ap import_status same in omega (arith, told, none)
through_at (ends.BadRecord number) ending status old new is (same, text) none = let told : status ≡ 11 = is ∙ ap import_status same in omega (arith, told, none)
through_at (ends.Refused refusal) ending status old new is (same, text) none = let told : status ≡ 12 = is ∙ ap import_status same in omega (arith, told, none)
through_at ends.Memory ending status old new is (same, text) none = let told : status ≡ 8 = is ∙ ap import_status same in omega (arith, told, none)

module _ (Told : Type 0) (user name bytes : List ℕ) (first now : Served) (input input' : InputState) (output output' : OutputState) (ending : ImportEnding) (status : ℕ) where
  imports_or_not : (came : Result ImportEnd _) → input.left ≡ Some bytes → status ≡ import_status ending → ImportsInput (TakesNear Told) user name first input input' came now → WritesCame output output' came ending
      → ImportsOrNot Told user name bytes first now status
  imports_or_not (Ok end) held is (read, whole, imports) writes =
      let same : read ≡ bytes = read_all bytes read input'.left (subst (λ (o : Option (List ℕ)). Consumes o input'.left read) held whole.consumed) whole.end in
      inl (end, subst (λ (b : List ℕ). Imports (TakesNear Told) user name b first end now) same imports, through_at end ending status output output' is writes)
  imports_or_not (Err fault) held is (until, same) writes = inr (same, λ none. unread_fails fault ending output output' writes (sym is ∙ none))

of_some : {X : Type 0} (o : Option X) (Q : X → Type 0) → ((x : X) → o ≡ Some x → Q x) → IfSome o Q
of_some None Q all = tt
of_some (Some x) Q all = all x refl

module _ {P K : Type 0} (place : PlaceGhosts P K) where
  pub imports_are_runs : {S O : Type 0} (input : SourceGhosts S) (output : SinkGhosts O) → ImportsAreRuns place input output
  imports_are_runs input output old new store user name read read' out out' status (inl refused) told =
      of_some (input.state read).left (λ bytes. DidNotOpen place old new store (input.state read) (input.state read') (output.state out) (output.state out') status ⊎ ImportRun place old new store user name bytes status)
      (λ bytes held. inl refused)
  imports_are_runs input output old new store user name read read' out out' status (inr (ending, is, has)) told =
      of_some (input.state read).left (λ bytes. DidNotOpen place old new store (input.state read) (input.state read') (output.state out) (output.state out') status ⊎ ImportRun place old new store user name bytes status)
      (λ bytes held. inr (record {
        told = told;
        first = has.first;
        now = has.now;
        begins = has.begins;
        imports = imports_or_not (place.tells new) user name bytes has.first has.now (input.state read) (input.state read') (output.state out) (output.state out') ending status has.came held is has.imports has.writes;
        leaves = has.leaves;
      }))

-- ---- Turns of an import.

module _ (Told : Type 0) where
  turns_of : (from : Sender) (ms : List Mutation) (old new : Served) (os : List Outcome) → TakesInOrder (TakesNear Told) from ms old os new → TakesInOrder (TakesTurn pull_json) from ms old os new
  turns_of from [] old new [] same = same
  turns_of from [] old new (o ∷ os) never = absurd never
  turns_of from (m ∷ ms) old new [] never = absurd never
  turns_of from (m ∷ ms) old new (o ∷ os) (mid, step, rest) = (mid, step.turn, turns_of from ms mid new os rest)

  imported_of : (from : Sender) (asked : Asked) (old new : Served) (end : ImportEnd) → Imported (TakesNear Told) from asked old end new → Imported (TakesTurn pull_json) from asked old end new
  imported_of from asked old new end i = record { taken = i.taken; left = i.left; outcomes = i.outcomes; all = i.all; turns = turns_of from i.taken old new i.outcomes i.turns; ends = i.ends }

  imports_of : (user name bytes : List ℕ) (old new : Served) (end : ImportEnd) → Imports (TakesNear Told) user name bytes old end new → Imports (TakesTurn pull_json) user name bytes old end new
  imports_of user name bytes old new ends.TooLarge above = above
  imports_of user name bytes old new (ends.Done counts) (within, i) = (within, imported_of (importer user) (asked_of user name bytes) old new (ends.Done counts) i)
  imports_of user name bytes old new (ends.BadRecord number) (within, i) = (within, imported_of (importer user) (asked_of user name bytes) old new (ends.BadRecord number) i)
  imports_of user name bytes old new (ends.Refused refusal) (within, i) = (within, imported_of (importer user) (asked_of user name bytes) old new (ends.Refused refusal) i)
  imports_of user name bytes old new ends.Memory (within, i) = (within, imported_of (importer user) (asked_of user name bytes) old new ends.Memory i)

-- after a turn without a trouble nothing is in doubt
none_left : (ask : Ask) (outcome : Outcome) (old new : Served) (settled : Book) (left : Doubt) (trouble : Option Trouble) → trouble ≡ None → TurnOf pull_json old settled ask outcome left trouble new → new.doubt ≡ None
none_left ask outcome old new settled None None none (step, doubt, still) = doubt
none_left ask outcome old new settled (Some next) None none never = absurd never
none_left ask outcome old new settled left (Some trouble) none turn = absurd (cc)

none_after : (from : Sender) (ms : List Mutation) (old new : Served) (os : List Outcome) → TakesInOrder (TakesTurn pull_json) from ms old os new → AreDone os → old.doubt ≡ None → new.doubt ≡ None
none_after from [] old new [] same done none = ap (λ (s : Served). s.doubt) same ∙ none
none_after from [] old new (o ∷ os) never done none = absurd never
none_after from (m ∷ ms) old new [] never done none = absurd never
none_after from (m ∷ ms) old new (o ∷ os) (mid, taken, rest) (one, more) none =
    none_after from ms mid new os rest more (none_left (Ask.mutation from m) o old mid taken.settled taken.left (trouble_of o) (no_trouble o one) taken.turn)

-- ---- What an import that went through leaves.

record IsComplete (user name bytes : List ℕ) (now : Served) : Type 0 where
  pub all : HasAll user name bytes now.book
  pub none : now.doubt ≡ None

module _ (once : ImportsActOnce pull_json) (user name bytes : List ℕ) (first now : Served) (none : first.doubt ≡ None) (starts : HasFirst user name bytes first.book) where
  through : (end : ImportEnd) → Imports (TakesTurn pull_json) user name bytes first end now → IsThrough end → IsComplete user name bytes now
  through (ends.Done counts) (within, i) done =
      let (bad, rest, all, counted) = i.ends in
      let whole : (asked_of user name bytes).mutations ≡ i.taken = i.all ∙ ap (λ (l : List Mutation). i.taken ++ l) rest ∙ append-nil i.taken in
      let turns : TakesInOrder (TakesTurn pull_json) (importer user) (asked_of user name bytes).mutations first i.outcomes now =
      subst (λ (ms : List Mutation). TakesInOrder (TakesTurn pull_json) (importer user) ms first i.outcomes now) (sym whole) i.turns in
      let begun : StartsFirst user name bytes first = (starts, subst (λ (d : Doubt). HasFirst user name bytes (with_doubt first.book d)) (sym none) starts) in
      record { all = (once user name bytes first now i.outcomes begun turns all).all; none = none_after (importer user) i.taken first now i.outcomes i.turns all none }
  through ends.TooLarge imports never = absurd never
  through (ends.BadRecord number) imports never = absurd never
  through (ends.Refused refusal) imports never = absurd never
  through ends.Memory imports never = absurd never

  complete : (Told : Type 0) → ImportsOrNot Told user name bytes first now 0 → IsComplete user name bytes now
  complete Told (inl (end, imports, done)) = through end (imports_of Told user name bytes first now end imports) (done refl)
  complete Told (inr (same, some)) = absurd (some refl)

-- ---- The same bytes again.

stays : (adds_nothing : ImportsAddNothing pull_json) (Told : Type 0) (user name bytes : List ℕ) (first now : Served) (status : ℕ) → HasAll user name bytes first.book → first.doubt ≡ None → ImportsOrNot Told user name bytes first now status → now.book ≡ first.book
stays adds_nothing Told user name bytes first now status all none (inl (end, imports, done)) = adds_nothing user name bytes first now end all none (imports_of Told user name bytes first now end imports)
stays adds_nothing Told user name bytes first now status all none (inr (same, some)) = ap (λ (s : Served). s.book) same

settled_is : (book : Book) (doubt : Doubt) (settled : Book) → doubt ≡ None → Settles book doubt settled → settled ≡ book
settled_is book doubt settled none (inl same) = same
settled_is book doubt settled none (inr entered) = entered ∙ ap (λ (d : Doubt). with_doubt book d) none

pub imports_enter_once : {P K : Type 0} (place : PlaceGhosts P K) → RunsGoOn place → ImportsActOnce pull_json → ImportsAddNothing pull_json → ImportsEnterOnce place
imports_enter_once place go_on once adds_nothing old mid new store user name bytes status run again other starts =
    let left : IsComplete user name bytes run.now = complete once user name bytes run.first run.now run.begins.doubt starts (place.tells mid) run.imports in
    let begun : again.first.book ≡ run.now.book = settled_is run.now.book run.now.doubt again.first.book left.none (go_on old mid new store run.now again.first other run.told again.told run.leaves again.begins) in
    let all : HasAll user name bytes again.first.book = subst (λ (b : Book). HasAll user name bytes b) (sym begun) left.all in
    record { none = left.none; begun = begun; all = all; same = stays adds_nothing (place.tells new) user name bytes again.first again.now status all again.begins.doubt again.imports }

-- The headline: what a run of the program reads, writes and answers, and what is kept. It is read from the top down: what is
-- answered, a run over lines and how it ends (what a line is and what is said of such runs stands in `LineRuns.antt`), how it begins
-- and what it leaves, what `run` promises of each command, and what follows.
use Rattle.std.proofs.Common.{refl}
use Rattle.std.specs.Prelude.{codes, decimal, ℕ, ◌≡◌, ◌<◌, ◌≤◌, ◌+◌, ◌-◌, ◌^◌, ◌⊎◌, List, [], ◌∷◌, ◌++◌, length, Bool, true, Option, Some, None, IfSome, Ok}
use Rattle.std.specs.List.{range_with_len, AllByRecursion}
use Rattle.std.specs.List.Sorted.{IsStrictlyIncreasing}
use Rattle.std.specs.Io.KnownBytes.{Appends}
use Rattle.rv_base.specs.Causes.{Rose}
use Rattle.rv_base.specs.Outside.{InputState, OutputState}
use Rattle.rv_base.specs.Writes.{AppendsFront, IsFront}
use Rattle.rv_rows.specs.Held.{Stored as StoredRow, rows_in}
use Rattle.rv_rows.specs.Sharing.{seen}
use Rattle.rv_book.specs.Book.{Book, last, last_order, opening, size, Extends}
use Rattle.rv_book.specs.Entries.{last_in}
use Rattle.rv_history.specs.Served.{Served, IsSound, MayStand, Settles, TakesTurn}
use Rattle.rv_history.specs.Closing.{GoesOnFrom}
use Rattle.rv_history.specs.Replay.{IsReplay}
use Rattle.rv_history.specs.Properties.{act_ids, look_orders, IsEntered, ReplyShows}
use Rattle.rv_keeper.specs.declared.loaded.Loaded.{Loaded}
use Rattle.rv_keeper.specs.Stores.{TakesUp}
use Rattle.rv_keeper.specs.Crashes.{LeavesMore}
use Rattle.rv_state.specs.Ready.{NextFits}
use Rattle.rv_standby.specs.Shipping.{BookIsTexts, book_lines}
use Rattle.rv_store.specs.Opening.{MayOpen, IsDamaged, IsSoundBook}
use Rattle.rv_store.specs.StoreCells.{IsKeptWith}
use Rattle.rv_report.specs.Lists.{lists_text}
use Rattle.rv_report.specs.Activity.{activity_text}
use Rattle.rv_csv.specs.Views.{IsView, view_text}
use Rattle.rv_answering.specs.declared.request.Request.TheVariants.{Pull, Push}
use Rattle.rv_answering.specs.declared.answer.Answer.{Answer}
use Rattle.rv_answering.specs.declared.answer.Answer.TheVariants.{Pulled, Pushed, Refused}
use Rattle.rv_answering.specs.declared.line.Line.{Line}
use Rattle.rv_answering.specs.declared.line.Line.TheVariants.{Asks, Stop}
use Rattle.rv_answering.specs.Requests.{Parsed, line_of}
use Rattle.rv_make.specs.Plays.{Plays}
use Rattle.rv_make.specs.SummaryTexts.{summary_text}
use Rattle.rv_make.specs.declared.summary.Summary.{Summary}
use Rattle.rv_cli.specs.declared.ending.Ending.{Ending}
use Rattle.rv_cli.specs.declared.ending.Ending.TheVariants.{Done, Keeper, Damaged, Write, Memory}
use Rattle.rv_cli.specs.Change.{StoreChange}
use Rattle.rv_cli.specs.LineRuns.{Lines, IsOwnText, IsPart, ReadsSo, WritesSo}
use Rattle.rv_cli.specs.LineRuns as line_runs
use Rattle.rv_cli.specs.Texts.{text_of, status_of, status_text}
use Rattle.rv_turns.specs.Outcomes.{IsChanged}
use Rattle.rv_wire.specs.Answers.{pull_json}
use Rattle.rv_turns.specs.declared.refusal.Trouble.{Trouble}
use Rattle.rv_turns.specs.declared.pull.PullRequest.{PullRequest}
use Rattle.rv_turns.specs.declared.pull.PullReply.{PullReply}
use Rattle.rv_turns.specs.declared.refusal.Refusal.TheVariants as refusals
use Rattle.rv_wire.specs.declared.push.Push as pushes
use Rattle.rv_wire.specs.declared.error_body.ErrorBody.TheVariants as errors
use Rattle.rv_answering.specs.Steps as steps
-- A pull reads at most as many rows and clients as the view at its base and the view now have: a clause of `pull` of a desk and of
-- `turn_pull` of a room, and of `take_counted` and `turn_counted`, by which lines and requests are answered.
pub use Rattle.rv_history.specs.Reading.{pull_steps, turn_steps}

-- ---- What is answered.

-- one request is answered by the server
abbrev pub Handles : Served → Parsed → Answer → Served → Type 0
Handles = steps.Handles (TakesTurn pull_json)

-- the answer is a trouble with what keeps the book, of which this holds
abbrev pub AnswersWith : (Trouble → Type 0) → Option Answer → Type 0
AnswersWith Holds (Some (Refused (errors.Refused (refusals.Trouble trouble)))) = Holds trouble
AnswersWith Holds answer = ⊥

-- the answer is that what is kept was changed by another
abbrev pub AnswersChange : Option Answer → Type 0
AnswersChange = AnswersWith (λ trouble. IsChanged (Some trouble))

-- One request is answered by the server. Where what is kept is told, the answer is not that another changed it.
pub record TakesStep (Told : Type 0) (old : Served) (asked : Parsed) (answer : Answer) (new : Served) : Type 0 where
  pub step : Handles old asked answer new
  pub near : Told → ¬ AnswersChange (Some answer)

-- The server is closed and opened again: nothing is in doubt then, and the count of faults stays. Where what is kept is
-- told, the book is the settled one, and else some lawful book within the limit.
pub record Reopens (Told : Type 0) (old new : Served) : Type 0 where
  pub sound : IsSound new
  pub limit : new.limit ≡ old.limit
  pub doubt : new.doubt ≡ None
  pub faults : new.faults ≡ old.faults
  pub settled : Told → Settles old.book old.doubt new.book

-- a request has its answer; a stop has none
abbrev pub TakesLine : Type 0 → Served → Line → Option Answer → Served → Type 0
TakesLine Told old (Asks asked) (Some answer) new = TakesStep Told old asked answer new
TakesLine Told old Stop None new = Reopens Told old new
TakesLine Told old (Asks asked) None new = ⊥
TakesLine Told old Stop (Some answer) new = ⊥

-- Lines as a server takes them: what bytes ask, how it takes that, and the text of its answers. After a stop it may stay closed.
abbrev pub served_lines : Lines
served_lines = record { State = Served; Line = Line; Answer = Answer; read = line_of; Takes = TakesLine; text = text_of; IsStop = λ line. line ≡ Some Stop; Refuses = λ state line. line ≡ None; refuses_none = λ state. refl }

-- ---- Runs over lines, of such a server (`LineRuns.antt`): what lines are, what a run over them answers, and how it ends.

abbrev pub Are : ℕ → List (List ℕ) → List Line → Type 0
Are = line_runs.Are served_lines

abbrev pub Run : Type 0 → Served → List Line → List (Option Answer) → Served → Type 0
Run = line_runs.Run served_lines

-- this state is reached from the first one by a run of some lines
abbrev pub IsReached : Type 0 → Served → Served → Type 0
IsReached = line_runs.IsReached served_lines

abbrev pub told_text : Option Answer → List ℕ
told_text = line_runs.told_text served_lines

abbrev pub Answered : Type 0 → Served → List (List ℕ) → List ℕ → Served → Type 0
Answered = line_runs.Answered served_lines

abbrev pub IsCutOff : Type 0 → Served → List ℕ → List ℕ → List ℕ → Served → Type 0
IsCutOff = line_runs.IsCutOff served_lines

abbrev pub Ends : Type 0 → Served → List ℕ → InputState → InputState → List ℕ → List ℕ → Served → Ending → Type 0
Ends = line_runs.Ends served_lines

abbrev pub Fed : Type 0 → Served → Served → List ℕ → InputState → InputState → OutputState → OutputState → Ending → Type 0
Fed = line_runs.Fed served_lines

-- where the source tells and all its lines are of the form, P
abbrev pub AllAsk : Option (List ℕ) → Type 0 → Type 0
AllAsk = line_runs.AllAre served_lines

-- the text, or where a write failed a front of it, and nothing else was written
abbrev pub WritesOnly : OutputState → OutputState → List ℕ → Type 0
WritesOnly old new text = (own : List ℕ) × Appends old.written new.written own × IsPart old.faults new.faults own text

-- ---- How a run begins, and what it leaves of its store.

-- This was loaded: where the place tells, the one thing that the store is opened with.
abbrev pub WasStored : StoreChange → Loaded → Type 0
WasStored c loaded = c.told → (held : Loaded) → c.opens held → held ≡ loaded

-- The state of the book that the store was kept as: nothing is in doubt, and no fault rose.
pub record Begins (c : StoreChange) (first : Served) : Type 0 where
  pub loaded : Loaded
  pub stored : WasStored c loaded
  pub opens : MayOpen (2 ^ 32 - 1) first.book loaded
  pub limit : first.limit ≡ 2 ^ 32 - 1
  pub doubt : first.doubt ≡ None
  pub faults : first.faults ≡ 0

-- The book is lawful, within the limit and of the form; and what is in doubt may come next, and is of the form.
pub record IsSoundStore (now : Served) : Type 0 where
  pub book : IsSoundBook now.limit now.book
  pub small : now.limit < 2 ^ 32
  pub fits : IfSome now.doubt NextFits
  pub next : MayStand now.book now.limit now.doubt

-- The book is sound, and what is in doubt may come next. Where the place tells, the store holds the cells of the book, or of the book with
-- what is in doubt, an entry or a closing; where it is honest, a crash leaves the same. The place takes up the faults of the keeper, of which
-- each trouble in the run was one.
pub record Leaves (c : StoreChange) (now : Served) : Type 0 where
  pub sound : IsSoundStore now
  pub held : c.told → (held : Loaded) × c.holds held × IsKeptWith now.book now.doubt held
  pub left : c.honest → (left : Option Loaded) → c.may_leave left → (held : Loaded) × (left ≡ Some held) × IsKeptWith now.book now.doubt held
  pub kept : ℕ
  pub later : now.faults ≤ kept
  pub taken : TakesUp kept c.before c.after

-- Why a store did not open: the place or the keeper failed, and the place's count of faults rose; or what was loaded is damaged
-- first at this place, and is left as it is; or memory was refused.
abbrev pub IsNotOpened : StoreChange → Ending → Type 0
IsNotOpened c Keeper = Rose c.before c.after
IsNotOpened c (Damaged damage) =
    (loaded : Loaded) × WasStored c loaded × IsDamaged (2 ^ 32 - 1) loaded damage × (c.told → (held : Loaded) → c.opens held → c.holds held) × (c.after ≡ c.before)
IsNotOpened c Memory = Unit {0}
IsNotOpened c ending = ⊥

-- Where the place tells, a store that did not open holds what it held: it was not given, or its keeper went back as it was opened. A
-- crash leaves what it might before, or what the store is opened with.
pub record IsLeftAs (c : StoreChange) : Type 0 where
  pub held : c.told → ((held : Loaded) → c.held held → c.holds held) ⊎ ((held : Loaded) → c.opens held → c.holds held)
  pub left : c.told → LeavesMore c.might_leave c.may_leave (λ left. (held : Loaded) → c.opens held → left ≡ Some held)

-- At a stop a trouble with what keeps the book is told only where the place's count of faults rose, and a damage only where the
-- place doesn't tell.
abbrev pub KeepsSo : StoreChange → Ending → Type 0
KeepsSo c Keeper = Rose c.before c.after
KeepsSo c (Damaged damage) = c.told → ⊥
KeepsSo c ending = Unit {0}

-- ---- What `run` promises of `feed`: the status is that of an ending. The store did not open, and nothing was read; or some lines were
-- taken, the faults are told by the ending, and where the source tells its bytes, the run over them ended so.
module _ (c : StoreChange) where
  pub record NotFed (input input' : InputState) (output output' : OutputState) (ending : Ending) : Type 0 where
    pub why : IsNotOpened c ending
    pub same : input' ≡ input
    pub text : WritesOnly output output' (status_text ending)

  pub record HasFed (input input' : InputState) (output output' : OutputState) (ending : Ending) : Type 0 where
    pub first : Served
    pub now : Served
    pub begins : Begins c first
    pub reads : ReadsSo input input' ending
    pub writes : WritesSo output.faults output'.faults ending
    pub reached : IsReached c.told first now
    pub fed : IfSome input.left (λ bytes. Fed c.told first now bytes input input' output output' ending)
    pub keeps : KeepsSo c ending
    pub leaves : Leaves c now

  abbrev pub RunsFeed : InputState → InputState → OutputState → OutputState → ℕ → Type 0
  RunsFeed input input' output output' status = (ending : Ending) × (status ≡ status_of ending)
      × ((NotFed input input' output output' ending × IsLeftAs c) ⊎ HasFed input input' output output' ending)

-- a status that is not that of a line which isn't of the form
abbrev pub IsOther : ℕ → Type 0
IsOther status = (status ≡ 0) ⊎ (status ≡ 4) ⊎ (status ≡ 5) ⊎ (status ≡ 6) ⊎ (status ≡ 7) ⊎ (status ≡ 8)

-- the store is opened with the cells of a lawful book of at most so many entries
abbrev pub KeptSound : (Loaded → Type 0) → Type 0
KeptSound Stored = (book : Book) × (held : Loaded) × Stored held × MayOpen (2 ^ 32 - 1) book held

-- ---- And of `retire` and `close-book`: the same over one line.

-- A run of one line may end so, with this text and this state: it is answered; or a front of its answer was written.
abbrev pub EndsOne : Type 0 → Served → Line → List ℕ → Served → Ending → Type 0
EndsOne Told first line text now Done = (answer : Answer) × TakesLine Told first line (Some answer) now × (text ≡ text_of answer)
EndsOne Told first line text now Write = (answer : Answer) × TakesLine Told first line (Some answer) now × IsFront text (text_of answer)
EndsOne Told first line text now ending = ⊥

module _ (c : StoreChange) where
  pub record NotOpened (output output' : OutputState) (ending : Ending) : Type 0 where
    pub why : IsNotOpened c ending
    pub text : WritesOnly output output' (status_text ending)

  -- what was added to the output is the text of the answer
  pub record Replied (line : Line) (output output' : OutputState) (ending : Ending) : Type 0 where
    pub first : Served
    pub now : Served
    pub begins : Begins c first
    pub text : List ℕ
    pub appended : Appends output.written output'.written text
    pub ends : EndsOne c.told first line text now ending
    pub status : IsOwnText output.faults output'.faults [] ending
    pub leaves : Leaves c now

  -- the status is that of an ending, and the run of this one line ended so
  abbrev pub RunsOne : Line → OutputState → OutputState → ℕ → Type 0
  RunsOne line output output' status = (ending : Ending) × (status ≡ status_of ending)
      × ((NotOpened output output' ending × IsLeftAs c) ⊎ Replied line output output' ending)

-- ---- And of a report: it is a text of the book that the store was kept as, or its lines, and the book stays kept.

-- the text of the rows that the book leaves
abbrev pub ReportsLists : Book → List ℕ → Type 0
ReportsLists book text = (rows : List StoredRow) × IsReplay book rows × (text ≡ lists_text rows)

-- the text of who did how much in the book
abbrev pub ReportsActivity : Book → List ℕ → Type 0
ReportsActivity book text = text ≡ activity_text book

-- the text of exactly the rows that the user sees among those that the book leaves, which are a view
abbrev pub ReportsView : List ℕ → Book → List ℕ → Type 0
ReportsView user book text = (rows : List StoredRow) × IsReplay book rows × IsView (seen user (rows_in rows)) × (text ≡ view_text (seen user (rows_in rows)))

-- that the store is sound, and how many entries the book has
abbrev pub ReportsSound : Book → List ℕ → Type 0
ReportsSound book text = text ≡ codes "ok " ++ (decimal (size book) ++ codes "\n")

-- what was written of a report: all of it; or a front of it, and a write failed; or none, and memory was refused for it
abbrev pub WritesReport : (List ℕ → Type 0) → OutputState → OutputState → Ending → Type 0
WritesReport Reports old new Done = (text : List ℕ) × Reports text × Appends old.written new.written text × (new.faults ≡ old.faults)
WritesReport Reports old new Write = (text : List ℕ) × Reports text × AppendsFront old.written new.written text × Rose old.faults new.faults
WritesReport Reports old new Memory = WritesOnly old new (status_text Memory)
WritesReport Reports old new ending = ⊥

-- so it is of a report that is a text of the book
abbrev pub WritesWhole : (Book → List ℕ → Type 0) → Book → OutputState → OutputState → Ending → Type 0
WritesWhole Reports book = WritesReport (Reports book)

-- And of the lines of the book, which are written one after another: all of them, and each is a JSON text; or a front of them, and a write
-- failed; or a front of them, and then that memory was refused.
abbrev pub WritesLines : Book → OutputState → OutputState → Ending → Type 0
WritesLines book old new Done = Appends old.written new.written (book_lines book) × (new.faults ≡ old.faults) × BookIsTexts book
WritesLines book old new Write = AppendsFront old.written new.written (book_lines book) × Rose old.faults new.faults
WritesLines book old new Memory = (mid : OutputState) × AppendsFront old.written mid.written (book_lines book) × (mid.faults ≡ old.faults) × WritesOnly mid new (status_text Memory)
WritesLines book old new ending = ⊥

module _ (c : StoreChange) where
  pub record Reported (Writes : Book → OutputState → OutputState → Ending → Type 0) (output output' : OutputState) (ending : Ending) : Type 0 where
    pub first : Served
    pub begins : Begins c first
    pub writes : Writes first.book output output' ending
    pub leaves : Leaves c first

  -- the status is that of an ending, and the store did not open, or was reported so
  abbrev pub RunsReport : (Book → OutputState → OutputState → Ending → Type 0) → OutputState → OutputState → ℕ → Type 0
  RunsReport Writes output output' status = (ending : Ending) × (status ≡ status_of ending)
      × ((NotOpened c output output' ending × IsLeftAs c) ⊎ Reported Writes output output' ending)

-- ---- And of `make`: it writes the summary of a run of the requests that a seed makes.

-- a run takes the first requests that the seed makes, over a fresh server, and this is its summary as a line
abbrev pub TellsRun : ℕ → ℕ → List ℕ → Type 0
TellsRun seed requests text = (summary : Summary) × Plays seed requests summary × (text ≡ summary_text summary)

-- the status is that of an ending, and the summary of such a run was written so
abbrev pub RunsMake : ℕ → ℕ → OutputState → OutputState → ℕ → Type 0
RunsMake seed requests output output' status = (ending : Ending) × (status ≡ status_of ending) × WritesReport (TellsRun seed requests) output output' ending

-- ---- What follows.

-- A run from a sound state leaves a sound one: its book is lawful, each client's acts have the ids 1, 2, 3 and so on, those after a page
-- from the client's last one there, and the orders of each group's looks rise, those after a page from above the group's last one there. Where
-- what is kept is told, the book goes on from the first.
pub record IsLawfulRun (Told : Type 0) (first now : Served) : Type 0 where
  pub sound : IsSound now
  pub more : Told → Extends now.book first.book
  pub ids : (client : List ℕ) → act_ids client now.book.entries ≡ range_with_len (last client (opening now.book) + 1) (last_in client now.book.entries)
  pub orders : (group : List ℕ) → IsStrictlyIncreasing (last_order group (opening now.book) ∷ look_orders group now.book.entries)
  pub later : first.faults ≤ now.faults
  pub limit : first.limit ≡ 2 ^ 32 - 1 → now.limit ≡ 2 ^ 32 - 1

-- The same of a run that may close the book: then the book goes on from the first by entries and closings.
pub record IsLawfulFeed (Told : Type 0) (first now : Served) : Type 0 where
  pub sound : IsSound now
  pub more : Told → GoesOnFrom first.book now.book
  pub ids : (client : List ℕ) → act_ids client now.book.entries ≡ range_with_len (last client (opening now.book) + 1) (last_in client now.book.entries)
  pub orders : (group : List ℕ) → IsStrictlyIncreasing (last_order group (opening now.book) ∷ look_orders group now.book.entries)
  pub later : first.faults ≤ now.faults
  pub limit : first.limit ≡ 2 ^ 32 - 1 → now.limit ≡ 2 ^ 32 - 1

-- Of runs where what is kept is told, and of those where it is not.
abbrev pub BooksAreLawful : Type 0
BooksAreLawful = (told : Bool) (first now : Served) (lines : List Line) (answers : List (Option Answer)) → Run (told ≡ true) first lines answers now → IsSound first → IsLawfulFeed (told ≡ true) first now

-- A pull was answered at a point of the book, and left the new book: the reply tells what the laws of the machine say of a
-- pull. Its patch, applied to the view that the request's cookie names, gives exactly what the user sees at the point.
pub record ShowsAt (asked : Parsed) (reply : PullReply) (point new : Book) : Type 0 where
  pub user : List ℕ
  pub request : PullRequest
  pub asks : asked ≡ Ok (Pull user request)
  pub tells : ReplyShows pull_json user request point new reply

-- Of a pull that is answered in a run: the state before it, the settled book at which it is answered, and the state after it.
pub record IsShown (Told : Type 0) (first now : Served) (before : List Line) (answered : List (Option Answer)) (asked : Parsed) (reply : PullReply) : Type 0 where
  pub point : Served
  pub new : Served
  pub settled : Book
  pub run : Run Told first before answered point
  pub step : Handles point asked (Pulled reply) new
  pub settles : Settles point.book point.doubt settled
  pub shows : ShowsAt asked reply settled new.book
  pub here : Extends new.book settled
  pub on : Told → GoesOnFrom new.book now.book

-- Each pull that a run from a sound state answers is answered at the settled book of the point that the run before it leaves, by
-- a step of the server there, and the book goes on from the book after it.
abbrev pub PullsAreShown : Type 0
PullsAreShown = (told : Bool) (first now : Served) (before after : List Line) (answered answers : List (Option Answer)) (asked : Parsed) (reply : PullReply) → IsSound first → length before ≡ length answered
    → Run (told ≡ true) first (before ++ Asks asked ∷ after) (answered ++ Some (Pulled reply) ∷ answers) now → IsShown (told ≡ true) first now before answered asked reply

-- Each pull that a server answers is answered at its settled book, from which the book that is left goes on, and shows what its user sees there.
abbrev pub StepsShow : Type 0
StepsShow = (point new : Served) (asked : Parsed) (reply : PullReply) → Handles point asked (Pulled reply) new → (settled : Book) × Settles point.book point.doubt settled × ShowsAt asked reply settled new.book × Extends new.book settled

-- Each mutation of a push that a sound server does not refuse stands in the book that is left; but for an id of 0, which is skipped and stands
-- nowhere.
abbrev pub StepsStand : Type 0
StepsStand = (point new : Served) (user : List ℕ) (push : pushes.Push) → IsSound point → Handles point (Ok (Push user push)) Pushed new
    → AllByRecursion (λ m. 1 ≤ m.id → IsEntered (record { user = user; group = push.group }) new.book m) push.mutations

-- the answer is a trouble with what keeps the book
abbrev pub AnswersTrouble : Option Answer → Type 0
AnswersTrouble = AnswersWith (λ trouble. Unit {0})

-- Where no fault of what keeps the book rose in a run, no answer tells a trouble with it.
abbrev pub TroublesHaveCauses : Type 0
TroublesHaveCauses = (told : Bool) (first now : Served) (lines : List Line) (answers : List (Option Answer)) → Run (told ≡ true) first lines answers now → now.faults ≡ 0 → AllByRecursion (λ answer. AnswersTrouble answer → ⊥) answers

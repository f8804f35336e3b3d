-- What a follower makes of a line.
use Rattle.std.specs.Prelude.{◌≡◌, ◌⊎◌, ℕ, List, [], ◌∷◌, ◌++◌, true, false, Option, Some, None, Result, Ok, Err}
use Rattle.rv_book.specs.declared.entry.Entry.{Entry}
use Rattle.rv_book.specs.declared.page.Page.{Page}
use Rattle.rv_book.specs.Book.{Book, book_from, size, with_entry}
use Rattle.rv_turns.specs.declared.pushing.Outcome.{Outcome}
use Rattle.rv_turns.specs.declared.pull.PullRequest.{PullRequest}
use Rattle.rv_turns.specs.declared.refusal.Refusal.TheVariants as refusals
use Rattle.rv_wire.specs.declared.error_body.ErrorBody.TheVariants as errors
use Rattle.rv_wire.specs.declared.fault.WireFault.{WireFault}
use Rattle.rv_wire.specs.Errors.{fault_error}
use Rattle.rv_keeper.specs.declared.cell.Cell.{Cell}
use Rattle.rv_record.specs.PageCells.{on_page}
use Rattle.rv_record.specs.PageReads.{IsKeptPage}
use Rattle.rv_state.specs.Entering.{IsNext}
use Rattle.rv_answering.specs.declared.answer.Answer.{Answer}
use Rattle.rv_answering.specs.declared.answer.Answer.TheVariants.{Refused}
use Rattle.rv_answering.specs.Steps.{answer_of}
use Rattle.rv_standby.specs.declared.take_fault.TakeFault.{TakeFault}
use Rattle.rv_standby.specs.declared.take_fault.TakeFault.TheVariants as faults
use Rattle.rv_standby.specs.Following.{Answers}
use Rattle.rv_following.specs.declared.follow_line.FollowLine.{FollowLine}
use Rattle.rv_following.specs.declared.follow_line.FollowLine.TheVariants as lines

-- the book of a follower, the most entries that it may have, and the cells of a page that is not whole yet
pub record Following : Type 0 where
  pub book : Book
  pub limit : ℕ
  pub gathered : List Cell

-- A cell of a page is gathered, where the book is empty.
abbrev pub Gathers : Following → Cell → Result (Unit {0}) TakeFault → Following → Type 0
Gathers old cell (Ok done) new = (size old.book ≡ 0) × (new ≡ record { book = old.book; limit = old.limit; gathered = old.gathered ++ cell ∷ [] })
Gathers old cell (Err faults.Refused) new = ¬ (size old.book ≡ 0) × (new ≡ old)
Gathers old cell (Err faults.Memory) new = new ≡ old

-- The entry of a cell is entered, where no page is begun and it may come next.
abbrev pub TakesCell : Following → Cell → Result (Unit {0}) TakeFault → Following → Type 0
TakesCell old cell (Ok done) new = (entry : Entry) × (old.gathered ≡ []) × IsNext old.limit old.book cell entry × (new ≡ record { book = with_entry old.book entry; limit = old.limit; gathered = old.gathered })
TakesCell old cell (Err faults.Refused) new = ((entry : Entry) → old.gathered ≡ [] → ¬ IsNext old.limit old.book cell entry) × (new ≡ old)
TakesCell old cell (Err faults.Memory) new = new ≡ old

-- The book opens with the page whose cells were gathered, where it is empty.
abbrev pub TakesPageLine : Following → Result (Unit {0}) TakeFault → Following → Type 0
TakesPageLine old (Ok done) new = (page : Page) × (size old.book ≡ 0) × IsKeptPage old.limit old.gathered page × (new ≡ record { book = book_from page []; limit = old.limit; gathered = [] })
TakesPageLine old (Err faults.Refused) new = ((page : Page) → size old.book ≡ 0 → ¬ IsKeptPage old.limit old.gathered page) × (new ≡ old)
TakesPageLine old (Err faults.Memory) new = new ≡ old

-- what comes of a pull is answered; or the first thing that is wrong with its body
abbrev pub AnswersPull : Book → List ℕ → Result PullRequest WireFault → Answer → Type 0
AnswersPull book user (Ok request) answer = (outcome : Outcome) × Answers book user request outcome × (answer ≡ answer_of outcome)
AnswersPull book user (Err fault) answer = answer ≡ Refused (fault_error fault)

-- the same, or memory was refused in reading its body
abbrev pub AnswersOrNot : Book → List ℕ → Result PullRequest WireFault → Answer → Type 0
AnswersOrNot book user pull answer = AnswersPull book user pull answer ⊎ (answer ≡ Refused (errors.Refused refusals.Memory))

-- A pull is answered where no page is begun. Nothing is entered.
abbrev pub TakesPull : Following → List ℕ → Result PullRequest WireFault → Result (Option Answer) TakeFault → Type 0
TakesPull old user pull (Ok (Some answer)) = (old.gathered ≡ []) × AnswersPull old.book user pull answer
TakesPull old user pull (Ok None) = ⊥
TakesPull old user pull (Err faults.Refused) = ¬ (old.gathered ≡ [])
TakesPull old user pull (Err faults.Memory) = ⊥

-- What comes of a line: a cell of a page is gathered, any other is that of an entry; a page that is whole is opened with; and a pull is
-- answered where no page is begun. The lines end at what is refused, and then all stays as it was.
abbrev pub Follows : Following → FollowLine → Result (Option Answer) TakeFault → Following → Type 0
Follows old (lines.Cell cell) (Ok None) new = ((on_page cell ≡ true) × Gathers old cell (Ok tt) new) ⊎ ((on_page cell ≡ false) × TakesCell old cell (Ok tt) new)
Follows old (lines.Cell cell) (Ok (Some answer)) new = ⊥
Follows old (lines.Cell cell) (Err fault) new = ((on_page cell ≡ true) × Gathers old cell (Err fault) new) ⊎ ((on_page cell ≡ false) × TakesCell old cell (Err fault) new)
Follows old lines.Page (Ok None) new = TakesPageLine old (Ok tt) new
Follows old lines.Page (Ok (Some answer)) new = ⊥
Follows old lines.Page (Err fault) new = TakesPageLine old (Err fault) new
Follows old (lines.Pull user pull) (Ok (Some answer)) new = (old.gathered ≡ []) × AnswersOrNot old.book user pull answer × (new ≡ old)
Follows old (lines.Pull user pull) (Ok None) new = ⊥
Follows old (lines.Pull user pull) (Err faults.Refused) new = ¬ (old.gathered ≡ []) × (new ≡ old)
Follows old (lines.Pull user pull) (Err faults.Memory) new = ⊥

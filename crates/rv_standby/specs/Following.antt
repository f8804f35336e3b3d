-- A standby: what it takes of the book that it follows, and what it answers to pulls.
use Rattle.std.specs.Prelude.{◌≡◌, ℕ, ◌-◌, ◌^◌, ◌<◌, ◌≤◌, Bool, true, false, List, [], decimal, Result, Ok, Err}
use Rattle.rv_base.specs.declared.memory.Memory.{Memory}
use Rattle.rv_book.specs.declared.entry.Entry.{Entry}
use Rattle.rv_book.specs.declared.page.Page.{Page}
use Rattle.rv_book.specs.Book.{Book, book_from, retired, size, with_entry}
use Rattle.rv_views.specs.declared.cookie.Cookie.{Cookie}
use Rattle.rv_views.specs.declared.cookie.Cookie.TheVariants.{Bare, Named}
use Rattle.rv_turns.specs.declared.pushing.Outcome.{Outcome}
use Rattle.rv_turns.specs.declared.pushing.Outcome.TheVariants.{Pulled, Refused}
use Rattle.rv_turns.specs.declared.pull.PullReply.{PullReply}
use Rattle.rv_turns.specs.declared.pull.PullRequest.{PullRequest}
use Rattle.rv_turns.specs.declared.refusal.Refusal.{Refusal}
use Rattle.rv_turns.specs.declared.refusal.Refusal.TheVariants as refusals
use Rattle.rv_turns.specs.declared.refusal.Which.TheVariants as which
use Rattle.rv_wire.specs.Answers.{pull_json}
use Rattle.rv_history.specs.Groups.{is_of_other, Admits}
use Rattle.rv_history.specs.Machine.{IsUnchanged, next_order, patch_for, ids_for, same_reply, new_reply}
use Rattle.rv_keeper.specs.declared.cell.Cell.{Cell}
use Rattle.rv_record.specs.declared.fault.CellFault.{CellFault}
use Rattle.rv_record.specs.declared.fault.CellFault.TheVariants as cell_faults
use Rattle.rv_record.specs.declared.page_read.PageRead.{PageRead}
use Rattle.rv_record.specs.PageReads.{IsKeptPage}
use Rattle.rv_state.specs.Entering.{IsNext}
use Rattle.rv_standby.specs.declared.take_fault.TakeFault.{TakeFault}
use Rattle.rv_standby.specs.declared.take_fault.TakeFault.TheVariants as faults

-- the book of a standby, and the most entries that it may have
pub record Followed : Type 0 where
  pub book : Book
  pub limit : ℕ

-- a cell that can't be read is refused
abbrev pub fault_of : CellFault → TakeFault
fault_of (cell_faults.BadCell damage) = faults.Refused
fault_of cell_faults.Memory = faults.Memory

-- The cell of the next entry is taken: the entry comes next, and it is told how long the book is then. A cell is refused exactly where it is
-- that of no entry which may come next. Where it is not taken the book stays.
abbrev pub Takes : ℕ → Book → Cell → Result ℕ TakeFault → Book → Type 0
Takes limit book cell (Ok length) new = (entry : Entry) × IsNext limit book cell entry × (new ≡ with_entry book entry) × (length ≡ size new)
Takes limit book cell (Err faults.Refused) new = ((entry : Entry) → ¬ IsNext limit book cell entry) × (new ≡ book)
Takes limit book cell (Err faults.Memory) new = new ≡ book

-- the one page that is kept as the cells, with its rows as tables; or there is none; or memory was refused
abbrev pub OpensOrNot : ℕ → List Cell → Result PageRead TakeFault → Type 0
OpensOrNot limit cells (Ok read) = IsKeptPage limit cells read.page × (read.tables.rows ≡ read.page.rows)
OpensOrNot limit cells (Err faults.Refused) = (page : Page) → ¬ IsKeptPage limit cells page
OpensOrNot limit cells (Err faults.Memory) = Unit {0}

-- The cells of a page are taken by an empty book, which opens with it then. They are refused exactly where the book is not empty, or they are
-- those of no page that may be kept.
abbrev pub TakesPage : ℕ → Book → List Cell → Result ℕ TakeFault → Book → Type 0
TakesPage limit book cells (Ok length) new = (page : Page) × (size book ≡ 0) × IsKeptPage limit cells page × (new ≡ book_from page []) × (length ≡ size new)
TakesPage limit book cells (Err faults.Refused) new = ((page : Page) → size book ≡ 0 → ¬ IsKeptPage limit cells page) × (new ≡ book)
TakesPage limit book cells (Err faults.Memory) new = new ≡ book

-- The text spells a place above the book's last, in decimal without leading zeros.
abbrev pub SpellsAbove : List ℕ → Book → Type 0
SpellsAbove text book = (place : ℕ) × (text ≡ decimal place) × (size book < place) × (place < 2 ^ 32)

-- The cookie names a place above the book's last: the client has seen more than the book has.
abbrev pub IsAhead : Cookie → Book → Type 0
IsAhead (Named text order) book = SpellsAbove text book
IsAhead cookie book = ⊥

-- A pull is answered: by its own cookie where there is nothing to tell; and else with the next order as a bare cookie, which names no base.
abbrev pub Replies : Book → List ℕ → PullRequest → Bool → PullReply → Type 0
Replies book user request true reply = IsUnchanged user request book × (reply ≡ same_reply pull_json request)
Replies book user request false reply =
    ¬ IsUnchanged user request book × (next_order request book < 2 ^ 53)
    × (reply ≡ new_reply pull_json (Bare (next_order request book)) (ids_for user request book) (patch_for user request book))

-- Why a pull is refused: the first case that holds. The group is bound to another user; it is retired; the cookie is ahead of the book; the
-- next order is above 2^53 - 1. Memory may be refused wherever the group is the user's and not retired, and the cookie is not ahead.
abbrev pub Refuses : Book → List ℕ → PullRequest → Refusal → Type 0
Refuses book user request refusals.GroupOfOther = is_of_other user request.group book ≡ true
Refuses book user request refusals.NotFound = (is_of_other user request.group book ≡ false) × (retired request.group book ≡ true)
Refuses book user request (refusals.Behind length) = Admits user request.group book × IsAhead request.cookie book × (length ≡ size book)
Refuses book user request (refusals.Limit which.Order at) =
    Admits user request.group book × ¬ IsAhead request.cookie book × ¬ IsUnchanged user request book × (2 ^ 53 ≤ next_order request book) × (at ≡ 2 ^ 53 - 1)
Refuses book user request refusals.Memory = Admits user request.group book × ¬ IsAhead request.cookie book
Refuses book user request refusal = ⊥

-- What comes of a pull at a standby. Nothing is entered: the book stays as it is.
abbrev pub Answers : Book → List ℕ → PullRequest → Outcome → Type 0
Answers book user request (Pulled reply) = Admits user request.group book × ¬ IsAhead request.cookie book × Replies book user request reply.same reply
Answers book user request (Refused refusal) = Refuses book user request refusal
Answers book user request outcome = ⊥

-- the same, or memory was refused
abbrev pub AnswersOrNot : Book → List ℕ → PullRequest → Result Outcome Memory → Type 0
AnswersOrNot book user request (Ok outcome) = Answers book user request outcome
AnswersOrNot book user request (Err memory) = Refuses book user request refusals.Memory

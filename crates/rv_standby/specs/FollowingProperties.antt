-- What follows for a standby that is given the cells of a book: its book is always a front of that one, and what it answers shows what its user
-- sees of that front.
use Rattle.std.specs.Prelude.{◌≡◌, ℕ, ◌+◌, ◌^◌, ◌<◌, ◌≤◌, ◌⊎◌, List, ◌∷◌, Result, Ok, Err}
use Rattle.rv_book.specs.declared.entry.Entry.{Entry}
use Rattle.rv_book.specs.Book.{Book, Extends, opening, size, with_entries, with_entry}
use Rattle.rv_turns.specs.declared.pushing.Outcome.TheVariants.{Pulled}
use Rattle.rv_turns.specs.declared.pull.PullReply.{PullReply}
use Rattle.rv_turns.specs.declared.pull.PullRequest.{PullRequest}
use Rattle.rv_history.specs.Bases.{base_of}
use Rattle.rv_history.specs.Properties.{IsBaseView}
use Rattle.rv_history.specs.Patches.{ClientView, client_view, apply}
use Rattle.rv_record.specs.PageCells.{page_cells}
use Rattle.rv_record.specs.CellTexts.{entry_cell}
use Rattle.rv_store.specs.Opening.{IsSoundBook}
use Rattle.rv_standby.specs.declared.take_fault.TakeFault.{TakeFault}
use Rattle.rv_standby.specs.declared.take_fault.TakeFault.TheVariants as faults
use Rattle.rv_standby.specs.Following.{Answers, Takes, TakesPage}

-- it is taken, and the book is this one then; or memory was refused, and the book is as it was
abbrev pub LeadsTo : Book → Book → Result ℕ TakeFault → Book → Type 0
LeadsTo old next result new = ((result ≡ Ok (size next)) × (new ≡ next)) ⊎ ((result ≡ Err faults.Memory) × (new ≡ old))

-- The page of a sound book is never refused by an empty standby: its book is what the other opened as.
abbrev pub PagesAreFollowed : Type 0
PagesAreFollowed = (limit : ℕ) (book empty new : Book) (result : Result ℕ TakeFault)
    → limit < 2 ^ 32 → IsSoundBook limit book → 1 ≤ book.page.at → size empty ≡ 0 → TakesPage limit empty (page_cells book.page) result new → LeadsTo empty (opening book) result new

-- The next entry of a sound book is never refused by a standby at a front of it: its book is the next front.
abbrev pub EntriesAreFollowed : Type 0
EntriesAreFollowed = (limit : ℕ) (book front new : Book) (entry : Entry) (more : List Entry) (result : Result ℕ TakeFault) → limit < 2 ^ 32 → IsSoundBook limit book → book ≡ with_entries front (entry ∷ more)
    → Takes limit front (entry_cell (size front + 1) entry) result new → LeadsTo front (with_entry front entry) result new

-- A patch of a standby at a front of a book, applied to the view that the cookie names, gives what its user sees of that front. The view is
-- what the user saw at that place of the whole book, so it does not matter who answered with the cookie.
abbrev pub FrontsAreShown : Type 0
FrontsAreShown = (book front : Book) (user : List ℕ) (request : PullRequest) (reply : PullReply) (view : ClientView) → Extends book front → Answers front user request (Pulled reply)
    → IsBaseView user book (base_of user request.cookie front) view → apply reply.ops view ≡ client_view user front

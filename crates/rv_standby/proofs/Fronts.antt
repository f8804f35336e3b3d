-- A standby at a front of a book.
use Rattle.std.proofs.Common.{◌≡◌, ℕ, ◌+◌, ◌^◌, ◌<◌, ◌≤◌, inl, inr, Bool, true, false, List, [], ◌∷◌, ◌++◌, Option, Some, None, Result, Ok, Err, refl, sym, ap, ◌∙◌, subst, arith}
use Rattle.std.specs.List.{AllByRecursion}
use Rattle.rv_book.specs.declared.entry.Entry.{Entry}
use Rattle.rv_book.specs.declared.page.Page.{Page}
use Rattle.rv_book.specs.Book.{Book, Extends, book_from, opening, size, up_to, with_entries, with_entry}
use Rattle.rv_book.specs.LookLaws.{look_at-within}
use Rattle.rv_book.specs.BookWordLaws.{size-with_entries, up_to-with_entries}
use Rattle.rv_book.specs.SoundPages.{IsOpening, IsSoundPage}
use Rattle.rv_views.specs.declared.cookie.Cookie.{Cookie}
use Rattle.rv_views.specs.declared.cookie.Cookie.TheVariants.{Bare}
use Rattle.rv_turns.specs.declared.pushing.Outcome.{Outcome}
use Rattle.rv_turns.specs.declared.pushing.Outcome.TheVariants.{Pulled}
use Rattle.rv_turns.specs.declared.pull.PullReply.{PullReply}
use Rattle.rv_turns.specs.declared.pull.PullRequest.{PullRequest}
use Rattle.rv_wire.specs.Answers.{pull_json}
use Rattle.rv_history.specs.BasedLaws.{base_look}
use Rattle.rv_history.specs.Bases.{base_of}
use Rattle.rv_history.specs.Machine.{next_order}
use Rattle.rv_history.specs.Properties.{IsBaseView, ReplyTells}
use Rattle.rv_history.specs.Patches.{ClientView, client_view, apply}
use Rattle.rv_history.proofs.Shown.{same_tells, new_tells}
use Rattle.rv_record.specs.PageCells.{page_cells}
use Rattle.rv_record.specs.PageLaws.{kept_one}
use Rattle.rv_record.specs.PageReads.{IsKeptPage}
use Rattle.rv_record.specs.CellTexts.{entry_cell}
use Rattle.rv_record.specs.EntryReading.{EntryFits}
use Rattle.rv_state.specs.Entering.{IsNext}
use Rattle.rv_state.proofs.EnteredCells.{entry_cell-same}
use Rattle.rv_store.specs.Opening.{IsSoundBook}
use Rattle.rv_standby.specs.declared.take_fault.TakeFault.{TakeFault}
use Rattle.rv_standby.specs.declared.take_fault.TakeFault.TheVariants as faults
use Rattle.rv_standby.specs.Following.{Answers, Replies, Takes, TakesPage}
use Rattle.rv_standby.specs.FollowingProperties.{LeadsTo}

-- ---- The page.

opened : (page : Page) → 1 ≤ page.at → IsOpening page → IsSoundPage page
opened page from (inl is) = absurd (let zero : page.at ≡ 0 = ap (λ (p : Page). p.at) is in omega (arith, zero, from))
opened page from (inr (at, sound)) = sound

pub pages_are_followed : (limit : ℕ) (book empty new : Book) (result : Result ℕ TakeFault) → limit < 2 ^ 32 → IsSoundBook limit book → 1 ≤ book.page.at → size empty ≡ 0 → TakesPage limit empty (page_cells book.page) result new → LeadsTo empty (opening book) result new
pages_are_followed limit book empty new result small sound from none takes = by result takes
  where
    page_sound : IsSoundPage book.page
    page_sound = opened book.page from sound.lawful.opens

    kept : IsKeptPage limit (page_cells book.page) book.page
    kept = record { are = refl; from = from; within = (let within = sound.within in omega (arith, within)); sound = page_sound; fits = sound.parts }

    by : (result : Result ℕ TakeFault) → TakesPage limit empty (page_cells book.page) result new → LeadsTo empty (opening book) result new
    by (Ok length) (page, zero, is, after, told) =
        let same : page ≡ book.page = kept_one limit limit (page_cells book.page) page book.page small small is kept in
        let next : new ≡ opening book = after ∙ ap (λ (p : Page). book_from p []) same in
        inl (ap Ok (told ∙ ap (λ (b : Book). size b) next), next)
    by (Err faults.Refused) (never, stays) = absurd (never book.page none kept)
    by (Err faults.Memory) stays = inr (refl, stays)

-- ---- The entries.

all_behind : {X : Type 0} (P : X → Type 0) (front : List X) (x : X) (more : List X) → AllByRecursion P (front ++ x ∷ more) → P x
all_behind P [] x more all = all.0
all_behind P (y ∷ front) x more all = all_behind P front x more all.1

pub entries_are_followed : (limit : ℕ) (book front new : Book) (entry : Entry) (more : List Entry) (result : Result ℕ TakeFault) → limit < 2 ^ 32 → IsSoundBook limit book → book ≡ with_entries front (entry ∷ more)
    → Takes limit front (entry_cell (size front + 1) entry) result new → LeadsTo front (with_entry front entry) result new
entries_are_followed limit book front new entry more result small sound is takes = by result takes
  where
    below : size front < limit
    below = omega (arith, sound.within, ap (λ (b : Book). size b) is, size-with_entries front (entry ∷ more))

    fits : EntryFits entry
    fits = all_behind EntryFits front.entries entry more (subst (λ (b : Book). AllByRecursion EntryFits b.entries) is sound.fits)

    next : IsNext limit front (entry_cell (size front + 1) entry) entry
    next = record { fits = fits; made = refl; below = below; lawful = sound.lawful.each front more entry is }

    by : (result : Result ℕ TakeFault) → Takes limit front (entry_cell (size front + 1) entry) result new → LeadsTo front (with_entry front entry) result new
    by (Ok length) (other, comes, after, told) =
        let same = entry_cell-same (size front + 1) (size front + 1) entry other (omega (arith, below, small)) (omega (arith, below, small)) fits comes.fits comes.made in
        let then : new ≡ with_entry front entry = after ∙ ap (with_entry front) (sym same.1) in
        inl (ap Ok (told ∙ ap (λ (b : Book). size b) then), then)
    by (Err faults.Refused) (never, stays) = absurd (never entry next)
    by (Err faults.Memory) stays = inr (refl, stays)

-- ---- What is answered.

-- a reply tells what is news
pub replies_tell : (book : Book) (user : List ℕ) (request : PullRequest) (same : Bool) (reply : PullReply) → Replies book user request same reply → ReplyTells pull_json user request book reply
replies_tell book user request true reply (none, is) = same_tells pull_json user request book reply none is
replies_tell book user request false reply (some, fits, is) = new_tells pull_json user request book (Bare (next_order request book)) reply refl is

pub answers_tell : (book : Book) (user : List ℕ) (request : PullRequest) (outcome : Outcome) → Answers book user request outcome → (reply : PullReply) → outcome ≡ Pulled reply → ReplyTells pull_json user request book reply
answers_tell book user request outcome answers reply is =
    let (admits, within, replies) = subst (Answers book user request) is answers in
    replies_tell book user request reply.same reply replies

-- a base is a place of the book
base_within : (user : List ℕ) (cookie : Cookie) (book : Book) (place : ℕ) → base_of user cookie book ≡ Some place → place ≤ size book
base_within user cookie book place is = let look = base_look user cookie book place is in (look_at-within place book _ look.1).1

-- the view that a base names at a front is the one that it names in the whole book
at_front : (book front : Book) (user : List ℕ) (base : Option ℕ) (view : ClientView) → Extends book front → ((place : ℕ) → base ≡ Some place → place ≤ size front) → IsBaseView user book base view → IsBaseView user front base view
at_front book front user None view goes within is = tt
at_front book front user (Some place) view (more, goes) within is =
    is ∙ ap (client_view user) (ap (up_to place) goes ∙ up_to-with_entries place front more (within place refl))

pub fronts_are_shown : (book front : Book) (user : List ℕ) (request : PullRequest) (reply : PullReply) (view : ClientView) → Extends book front → Answers front user request (Pulled reply)
    → IsBaseView user book (base_of user request.cookie front) view → apply reply.ops view ≡ client_view user front
fronts_are_shown book front user request reply view goes (admits, ahead, replies) is =
    (replies_tell front user request reply.same reply replies).shows view (at_front book front user (base_of user request.cookie front) view goes (λ place found. base_within user request.cookie front place found) is)

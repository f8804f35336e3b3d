-- The rows of a book with the places of their last writes go on entry by entry, and fit the page that sums it up.
use Rattle.std.proofs.Common.{◌≡◌, ℕ, ◌+◌, ◌<◌, ◌≤◌, ◌++◌, List, [], ◌∷◌, sym, ap, ◌∙◌, subst, arith, length, get_or, take}
use Rattle.std.specs.List.{AllByRecursion}
use Rattle.std.proofs.lemmas.List.{take_more, length-take-le}
use Rattle.rv_rows.specs.Held.{Stored}
use Rattle.rv_book.specs.declared.entry.Entry.{Entry}
use Rattle.rv_book.specs.declared.entry.Entry.TheVariants.{Act, Look, Retire}
use Rattle.rv_book.specs.declared.page.Page.{Page}
use Rattle.rv_book.specs.Book.{Book, book_from, size, with_entry}
use Rattle.rv_history.specs.Closing.{SumsUp}
use Rattle.rv_history.specs.ClosingLaws.{closed_replay}
use Rattle.rv_history.specs.Replay.{IsReplay}
use Rattle.rv_history.specs.ReplayLaws.{replay_act, replay_look, replay_retire}
use Rattle.rv_plain.specs.Plain.{stored_after, PageFits}

-- one more entry
replay_entry : (book : Book) (stored : List Stored) (e : Entry) → IsReplay book stored → IsReplay (with_entry book e) (stored_after (size book + 1) stored e)
replay_entry book stored (Act user group client id call) replay = replay_act book stored user group client id call replay
replay_entry book stored (Look user group order base) replay = replay_look book stored user group order base replay
replay_entry book stored (Retire group) replay = replay_retire book stored group replay

-- the next of the entries that stand after a page
pub replay_next : (page : Page) (entries : List Entry) (i place : ℕ) (e : Entry) {stored new : List Stored} → i < length entries → e ≡ get_or entries i e → place ≡ page.at + i
    → IsReplay (book_from page (take i entries)) stored → new ≡ stored_after (place + 1) stored e → IsReplay (book_from page (take (i + 1) entries)) new
replay_next page entries i place e {stored = stored} {new = new} lt is at replay after =
    let book = book_from page (take i entries) in
    let long : size book ≡ place = omega (arith, at, length-take-le i entries (omega (arith, lt))) in
    let next : with_entry book e ≡ book_from page (take (i + 1) entries) = ap (book_from page) (sym (take_more entries i e lt ∙ ap (λ (x : Entry). take i entries ++ x ∷ []) (sym is))) in
    let told : stored_after (size book + 1) stored e ≡ new = ap (λ (n : ℕ). stored_after (n + 1) stored e) long ∙ sym after in
    subst (λ (b : Book). IsReplay b new) next (subst (IsReplay (with_entry book e)) told (replay_entry book stored e replay))

-- a page that sums up a book, no last mutation id of which is above its length
pub page_fits : (book : Book) (page : Page) → SumsUp book page → AllByRecursion (λ client. client.2 ≤ size book) page.clients → PageFits page
page_fits book page sums lasts = record {
  rows = closed_replay book page sums;
  lasts = below page.clients lasts;
}
  where
    below : (clients : List (List ℕ × List ℕ × ℕ)) → AllByRecursion (λ client. client.2 ≤ size book) clients → AllByRecursion (λ client. client.2 ≤ page.at) clients
    below [] all = tt
    below (client ∷ clients) all = (omega (arith, all.0, sums.at), below clients all.1)

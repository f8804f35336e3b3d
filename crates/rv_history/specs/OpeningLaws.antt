-- A book that opens with a page, and has no entries: it is lawful, its rows are the page's, no look is kept, and every user's mark is the page's
-- place. And a book has one replay.
use Rattle.std.proofs.Common.{◌≡◌, ℕ, ◌+◌, ◌-◌, ◌<◌, ◌≤◌, Bool, true, false, cond, nat_lt, List, [], ◌∷◌, ◌++◌, map, Option, Some, None, refl, sym, ap, ◌∙◌, subst, arith, inr}
use Rattle.std.specs.List.{AllByRecursion, slice_get}
use Rattle.std.specs.Option.{option_map, option_and_then}
use Rattle.rv_base.specs.ArrangedLaws.{sorted-in_order}
use Rattle.rv_rows.specs.declared.row.Row.{Row}
use Rattle.rv_rows.specs.Held.{Stored, find, rows_in}
use Rattle.rv_rows.specs.Keys.{row_text, in_key_order}
use Rattle.rv_book.specs.declared.entry.Entry.{Entry}
use Rattle.rv_book.specs.declared.page.Page.{Page}
use Rattle.rv_book.specs.Book.{Book, book_from, entry_at}
use Rattle.rv_book.specs.Kept.{kept, look_at, look_of}
use Rattle.rv_book.specs.LookLaws.{kept-none}
use Rattle.rv_book.specs.SoundPages.{IsOpening, IsSoundPage}
use Rattle.rv_history.specs.Closing.{Closes, SumsUp}
use Rattle.rv_history.specs.ClosingLaws.{closed_replay}
use Rattle.rv_history.specs.Lawful.{IsLawful}
use Rattle.rv_history.specs.Marks.{IsMark}
use Rattle.rv_history.specs.Replay.{IsLastWrite, IsReplay}
use Rattle.rv_history.specs.ReplayLaws.{each_found, last_write_unique}
use Rattle.rv_history.specs.SoundClosingLaws.{closing_opens, in_rows}

no_entry : (before after : List Entry) (entry : Entry) → [] ≡ before ++ entry ∷ after → ⊥
no_entry [] after entry is = cc
no_entry (other ∷ before) after entry is = cc

pub lawful_opening : (page : Page) → IsOpening page → IsLawful (book_from page [])
lawful_opening page opens = record { opens = opens; each = λ before after entry is. absurd (no_entry before.entries after entry (ap (λ (b : Book). b.entries) is)) }

-- its rows are the page's, in the order of their keys, each with its version
pub replay_opening : (page : Page) → IsSoundPage page → IsReplay (book_from page []) page.rows
replay_opening page sound =
    let order = in_rows page.rows sound.rows in
    let sorted : in_key_order (rows_in page.rows) ≡ rows_in page.rows = sorted-in_order row_text (rows_in page.rows) order in
    record {
      rows = sym (ap in_key_order sorted ∙ sorted);
      versions = each page.rows (each_found (λ (s : Stored). row_text s.0) page.rows sound.rows) sound.versions;
    }
  where
    each : (rows : List Stored) → AllByRecursion (λ s. find (row_text s.0) page.rows ≡ Some s) rows → AllByRecursion (λ s. (1 ≤ s.1) × (s.1 ≤ page.at)) rows → AllByRecursion (λ s. IsLastWrite (book_from page []) (row_text s.0) s.1) rows
    each [] found within = tt
    each (s ∷ rows) found within = (
      record {
        wrote = inr (within.0.1, ap (option_map (λ (t : Stored). t.1)) found.0);
        last = λ later lt wrote. absurd (let first = wrote.first in let most = wrote.within in omega (arith, first, most));
      },
      each rows found.1 within.1,
    )

-- no look of it is kept
pub kept_opening : (page : Page) (place : ℕ) → kept place (book_from page []) ≡ false
kept_opening page place = kept-none place (book_from page []) (ap (option_and_then look_of) (nothing (nat_lt page.at place)))
  where
    nothing : (b : Bool) → cond b (slice_get {X = Entry} [] (place - (page.at + 1))) None ≡ None
    nothing true = refl
    nothing false = refl

pub mark_opening : (user : List ℕ) (page : Page) → IsMark user (book_from page []) page.at
mark_opening user page = record {
  concerns = λ above. absurd (omega arith);
  least = omega arith;
  last = λ later above concerns. absurd (let first = concerns.within in omega (arith, first));
}

-- the same rows, each with the place of its last write
same_stored : (book : Book) (a b : List Stored) → rows_in a ≡ rows_in b → AllByRecursion (λ s. IsLastWrite book (row_text s.0) s.1) a → AllByRecursion (λ s. IsLastWrite book (row_text s.0) s.1) b → a ≡ b
same_stored book [] [] same one other = refl
same_stored book [] (y ∷ ys) same one other = absurd (cc)
same_stored book (x ∷ xs) [] same one other = absurd (cc)
same_stored book (x ∷ xs) (y ∷ ys) same one other =
    let row : x.0 ≡ y.0 = cc in
    let rest : rows_in xs ≡ rows_in ys = cc in
    let version : x.1 ≡ y.1 = last_write_unique book (row_text y.0) x.1 y.1 (subst (λ (r : Row). IsLastWrite book (row_text r) x.1) row one.0) other.0 in
    let others = same_stored book xs ys rest one.1 other.1 in
    (λ i. (row i, version i) ∷ others i)

-- a book has one replay
pub replay_unique : (book : Book) (a b : List Stored) → IsReplay book a → IsReplay book b → a ≡ b
replay_unique book a b one other = same_stored book a b (one.rows ∙ sym other.rows) one.versions other.versions

-- A book that is closed keeps its replay.
pub closes_replay : (book new : Book) (rows : List Stored) → Closes book new → IsReplay book rows → IsReplay new rows
closes_replay book new rows closes replay =
    let same = replay_unique book closes.page.rows rows closes.sums.rows replay in
    subst (λ (b : Book). IsReplay b rows) (sym closes.is) (subst (IsReplay (book_from closes.page [])) same (closed_replay book closes.page closes.sums))

-- and the book that it leaves is lawful
pub closes_lawful : (book new : Book) → Closes book new → IsLawful book → IsLawful new
closes_lawful book new closes lawful = subst IsLawful (sym closes.is) (lawful_opening closes.page (closing_opens book closes.page lawful closes.sums))

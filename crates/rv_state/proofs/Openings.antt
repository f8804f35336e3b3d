-- The state of a book that opens with a page; and the page that sums a book up.
use Rattle.std.proofs.Common.{◌≡◌, ℕ, zero, suc, ◌+◌, ◌<◌, ◌≤◌, ◌^◌, List, [], ◌∷◌, ◌++◌, length, take, slice_get, Some, None, sym, ap, ◌∙◌, subst, arith, inr}
use Rattle.std.specs.List.{AllByRecursion}
use Rattle.rv_rows.specs.Held.{Stored}
use Rattle.rv_book.specs.declared.page.Page.{Page}
use Rattle.rv_book.specs.Book.{Book, book_from, size}
use Rattle.rv_book.specs.SoundPages.{IsSoundPage}
use Rattle.rv_history.specs.Closing.{Closes}
use Rattle.rv_history.specs.Lawful.{IsLawful}
use Rattle.rv_history.specs.OpeningLaws.{closes_lawful, closes_replay, kept_opening, lawful_opening, mark_opening, replay_opening}
use Rattle.rv_history.specs.Replay.{IsReplay}
use Rattle.rv_history.specs.Served.{Next}
use Rattle.rv_history.specs.TurnLaws.{size-with_next}
use Rattle.rv_news.specs.Records.{AreRecords, Placed}
use Rattle.rv_record.specs.EntryReading.{EntryFits}
use Rattle.rv_record.specs.PageCells.{PartsFit}
use Rattle.rv_state.specs.UserMarks.{AreMarks, UserMark}
use Rattle.rv_state.proofs.Entered.{Stands}

records_opening : (page : Page) → AreRecords (book_from page []) []
records_opening page = record {
  rise = tt;
  each = tt;
  all = λ place stays. absurd (let both = sym stays ∙ kept_opening page place in cc);
}

marks_opening : (page : Page) → AreMarks (book_from page []) []
marks_opening page = record { order = tt; each = λ user. mark_opening user page }

-- a page that is sound, at a place above 0
pub opening_stands : (page : Page) (book : Book) (limit : ℕ) (rows : List Stored) (records : List Placed) (marks : List UserMark) → IsSoundPage page → 1 ≤ page.at → PartsFit page → page.at ≤ limit → limit < 2 ^ 32 → book ≡ book_from page [] → rows ≡ page.rows → records ≡ [] → marks ≡ [] → Stands book limit rows records marks
opening_stands page book limit rows records marks sound from fits most range is rows_are records_are marks_are =
    rw (is, rows_are, records_are, marks_are) (lawful_opening page (inr (from, sound)), replay_opening page sound, records_opening page, tt, marks_opening page, fits, (omega (arith, most), range))

-- the book that closing leaves of one
pub closed_stands : (book new : Book) (limit : ℕ) (rows : List Stored) (records : List Placed) (marks : List UserMark) → Closes book new → IsLawful book → IsReplay book rows → PartsFit new.page → size book < limit → limit < 2 ^ 32 → records ≡ [] → marks ≡ [] → Stands new limit rows records marks
closed_stands book new limit rows records marks closes lawful replay fits below range records_are marks_are = (
  closes_lawful book new closes lawful,
  closes_replay book new rows closes replay,
  rw records_are (subst (λ (b : Book). AreRecords b []) (sym closes.is) (records_opening closes.page)),
  subst (λ (b : Book). AllByRecursion EntryFits b.entries) (sym closes.is) tt,
  rw marks_are (subst (λ (b : Book). AreMarks b []) (sym closes.is) (marks_opening closes.page)),
  fits,
  (omega (arith, size-with_next book (Next.closed new) closes, below), range),
)

-- ---- What is gone through by its index.

pub take_got : {X : Type 0} (xs : List X) (i : ℕ) (x : X) → Some x ≡ slice_get xs i → take (i + 1) xs ≡ take i xs ++ x ∷ []
take_got [] i x got = absurd (cc)
take_got (y ∷ xs) zero x got = let same : x ≡ y = cc in ap (λ z. z ∷ []) (sym same)
take_got {X} (y ∷ xs) (suc i) x got = let next : suc i + 1 ≡ suc (i + 1) = omega arith in ap (λ (n : ℕ). take n (y ∷ xs)) next ∙ ap (λ (ys : List X). y ∷ ys) (take_got xs i x got)

pub none_got : {X : Type 0} (xs : List X) (i : ℕ) → None ≡ slice_get xs i → i < length xs → ⊥
none_got [] i got below = omega arith
none_got (y ∷ xs) zero got below = cc
none_got (y ∷ xs) (suc i) got below = none_got xs i got (omega arith)

-- the items so far, with the next
pub so_far : {X : Type 0} (xs items more : List X) (i : ℕ) (x next : X) → items ≡ take i xs → Some x ≡ slice_get xs i → more ≡ items ++ next ∷ [] → next ≡ x → more ≡ take (i + 1) xs
so_far {X} xs items more i x next are got grown is = grown ∙ (λ j. are j ++ is j ∷ []) ∙ sym (take_got xs i x got)

pub all_more : {X : Type 0} (P : X → Type 0) (items more : List X) (next : X) → AllByRecursion P items → P next → more ≡ items ++ next ∷ [] → AllByRecursion P more
all_more P items more next all one grown = subst (AllByRecursion P) (sym grown) (push items all)
  where
    push : (xs : List _) → AllByRecursion P xs → AllByRecursion P (xs ++ next ∷ [])
    push [] each = (one, tt)
    push (x ∷ xs) each = (each.0, push xs each.1)

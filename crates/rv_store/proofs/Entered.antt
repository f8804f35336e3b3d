-- Entries that are entered one after another, from the cells of shelf 1.
use Rattle.std.proofs.Common.{◌≡◌, ℕ, ◌+◌, ◌≤◌, List, [], ◌∷◌, ◌++◌, length, reverse, Result, Ok, Err, IsErrAnd, sym, ap, ◌∙◌, subst, arith, append_assoc}
use Rattle.std.specs.declared.cmp.Ordering.{Ordering}
use Rattle.std.specs.declared.cmp.Ordering.TheVariants.{Less}
use Rattle.std.specs.Ordering.{nat_cmp, ordering_then}
use Rattle.std.specs.Cmp.Lexicographic.{slice_cmp}
use Rattle.std.specs.List.{AllByRecursion}
use Rattle.std.proofs.lemmas.Bool.Decides.{nat_tests}
use Rattle.std.proofs.lemmas.List.{length-reverse, reverse-append}
use Rattle.rv_base.specs.Sorted.{Below}
use Rattle.rv_book.specs.declared.entry.Entry.{Entry}
use Rattle.rv_book.specs.declared.page.Page.{Page}
use Rattle.rv_book.specs.Book.{Book, book_from, size, with_entry}
use Rattle.rv_book.specs.BookWordLaws.{size-with_entry}
use Rattle.rv_history.specs.LawfulBookLaws.{lawful_more}
use Rattle.rv_keeper.specs.declared.cell.Cell.{Cell}
use Rattle.rv_keeper.specs.Cells.{cell_key}
use Rattle.rv_record.specs.declared.fault.CellFault.{CellFault}
use Rattle.rv_record.specs.declared.fault.CellFault.TheVariants.{BadCell, Memory}
use Rattle.rv_record.specs.declared.fault.Damage.{Damage}
use Rattle.rv_record.specs.CellTexts.{entry_cell}
use Rattle.rv_record.specs.EntryReading.{EntryFits}
use Rattle.rv_store.specs.StoreCells.{entry_cells}
use Rattle.rv_store.specs.ShelfLaws.{all-append}
use Rattle.rv_store.specs.StoreBookLaws.{entry_cells-with_entry}
use Rattle.rv_store.specs.Opening.{IsSoundBook, BreaksAt, HasEntries}
use Rattle.rv_state.specs.Standing.{Standing}
use Rattle.rv_state.specs.Entering.{IsBrokenEntry, IsNext, Breaks}
use Rattle.rv_store.specs.OpeningSteps.{EntersAll}

-- ---- the cells of entries

-- the book opens with the page, and the cells are those of its entries and these, which are left
pub record Entered (limit : ℕ) (page : Page) (cells left : List Cell) (book : Book) : Type 0 where
  pub opens : book.page ≡ page
  pub cells_are : cells ≡ entry_cells (page.at + 1) book.entries ++ left
  pub first : AllByRecursion (λ cell. cell.shelf ≡ 1) left
  pub sound : IsSoundBook limit book

pub none_entered : (limit : ℕ) (page : Page) (cells left : List Cell) (book : Book) → book ≡ book_from page [] → left ≡ cells → AllByRecursion (λ cell. cell.shelf ≡ 1) cells → IsSoundBook limit book → Entered limit page cells left book
none_entered limit page cells left book none same first sound = record {
  opens = ap (λ (b : Book). b.page) none;
  cells_are = sym same ∙ ap (λ (b : Book). entry_cells (page.at + 1) b.entries ++ left) (sym none);
  first = subst (AllByRecursion (λ cell. cell.shelf ≡ 1)) (sym same) first;
  sound = sound;
}

-- those that are left stand in a list whose last is the first of them
pub popped : (limit : ℕ) (page : Page) (cells before after : List Cell) (cell : Cell) (book : Book) → before ≡ after ++ cell ∷ [] → Entered limit page cells (reverse before) book → Entered limit page cells (cell ∷ reverse after) book
popped limit page cells before after cell book same entered = subst (λ (left : List Cell). Entered limit page cells left book) (ap reverse same ∙ reverse-append after (cell ∷ [])) entered

sound_more : (limit : ℕ) (book : Book) (cell : Cell) (entry : Entry) → IsSoundBook limit book → IsNext limit book cell entry → IsSoundBook limit (with_entry book entry)
sound_more limit book cell entry sound next = record {
  lawful = lawful_more book entry sound.lawful next.lawful;
  within = omega (arith, size-with_entry book entry, next.below);
  fits = all-append EntryFits book.entries (entry ∷ []) sound.fits (next.fits, tt);
  parts = sound.parts;
}

pub one_entered : (limit most : ℕ) (page : Page) (cells left : List Cell) (cell : Cell) (book next : Book) → most ≡ limit
    → (entry : Entry) × IsNext most book cell entry × (next ≡ with_entry book entry) → Entered limit page cells (cell ∷ left) book → Entered limit page cells left next
one_entered limit most page cells left cell book next same (entry, comes, after) entered =
    let comes : IsNext limit book cell entry = subst (λ (n : ℕ). IsNext n book cell entry) same comes in
    let place : size book + 1 ≡ (page.at + 1) + length book.entries = omega (arith, ap (λ (p : Page). p.at) entered.opens) in
    rw after (record {
      opens = entered.opens;
      cells_are = entered.cells_are ∙ ap (λ (c : Cell). entry_cells (page.at + 1) book.entries ++ c ∷ left) (comes.made ∙ ap (λ (p : ℕ). entry_cell p entry) place)
          ∙ sym (append_assoc (entry_cells (page.at + 1) book.entries) (entry_cell ((page.at + 1) + length book.entries) entry ∷ []) left)
          ∙ ap (λ (t : List Cell). t ++ left) (sym (entry_cells-with_entry (page.at + 1) book entry));
      first = entered.first.1;
      sound = sound_more limit book cell entry entered.sound comes;
    })

-- ---- the cells beside those of entries

not_above : (a b : ℕ) (o : Ordering) → ordering_then (nat_cmp a b) o ≡ Less → a ≤ b
not_above a b o less = grind (arith, nat_tests)

pub shelf_below : (x y : Cell) → Below (cell_key x) (cell_key y) → x.shelf ≤ y.shelf
shelf_below x y low = not_above x.shelf y.shelf (slice_cmp nat_cmp x.key y.key) low

-- ---- what is answered in the end

module _ (limit : ℕ) (page : Page) (all : List Cell) where
  none_left : (left : List Cell) (book : Book) → length left ≡ 0 → Entered limit page all left book → HasEntries limit page book all []
  none_left [] book none entered = record { opens = entered.opens; cells = entered.cells_are; beside = tt; sound = entered.sound }
  none_left (cell ∷ left) book one entered = absurd (omega (arith, one))

  pub entered_all : (left : List Cell) (book : Book) → length left ≡ 0 → Entered limit page all (reverse left) book → HasEntries limit page book all []
  entered_all left book none entered = none_left (reverse left) book (length-reverse left ∙ none) entered

  entered_broken : (most : ℕ) (left : List Cell) (cell : Cell) (book : Book) (damage : Damage) → most ≡ limit → Breaks most book cell (BadCell damage) → Entered limit page all (cell ∷ left) book → BreaksAt limit page all damage
  entered_broken most left cell book damage same breaks entered = record {
    book = book;
    cell = cell;
    others = left;
    opens = entered.opens;
    cells = entered.cells_are;
    sound = entered.sound;
    broken = subst (λ (n : ℕ). IsBrokenEntry n book cell) same breaks.0;
    at = breaks.1;
  }

  pub entered_fails : (most : ℕ) (left : List Cell) (cell : Cell) (book : Book) (fault : CellFault) (r : Result Standing CellFault) → IsErrAnd r (λ d. d ≡ fault) → most ≡ limit
      → Breaks most book cell fault → Entered limit page all (cell ∷ left) book → EntersAll limit page all r
  entered_fails most left cell book fault (Ok state) fails same breaks entered = absurd fails
  entered_fails most left cell book fault (Err (BadCell damage)) fails same breaks entered = entered_broken most left cell book damage same (subst (Breaks most book cell) (sym fails) breaks) entered
  entered_fails most left cell book fault (Err Memory) fails same breaks entered = tt

  pub begins_fails : (r : Result Standing CellFault) → IsErrAnd r (λ d. d ≡ Memory) → EntersAll limit page all r
  begins_fails (Ok state) fails = absurd fails
  begins_fails (Err (BadCell damage)) fails = absurd (let no_memory : BadCell damage ≡ Memory = fails in cc)
  begins_fails (Err Memory) fails = tt

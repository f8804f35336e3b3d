-- Opening answers the book that is kept wherever there is one: that book is the only one, and then no place is damaged.
use Rattle.std.proofs.Common.{◌≡◌, ℕ, ◌+◌, ◌^◌, ◌<◌, ◌≤◌, List, [], ◌∷◌, ◌++◌, length, Result, Ok, Err, MatchResult, refl, sym, ap, ◌∙◌, subst, arith, inl, inr}
use Rattle.std.specs.List.{AllByRecursion}
use Rattle.rv_base.specs.Sorted.{find_by}
use Rattle.rv_book.specs.declared.entry.Entry.{Entry}
use Rattle.rv_book.specs.declared.page.Page.{Page}
use Rattle.rv_book.specs.Book.{Book, no_page, size, with_entries}
use Rattle.rv_book.specs.SoundPages.{IsOpening}
use Rattle.rv_book.specs.BookWordLaws.{size-with_entries}
use Rattle.rv_keeper.specs.declared.cell.Cell.{Cell}
use Rattle.rv_keeper.specs.declared.loaded.Loaded.{Loaded}
use Rattle.rv_keeper.specs.Cells.{cell_key}
use Rattle.rv_record.specs.declared.fault.CellFault.{CellFault}
use Rattle.rv_record.specs.declared.fault.CellFault.TheVariants.{BadCell, Memory}
use Rattle.rv_record.specs.declared.fault.Damage.{Damage}
use Rattle.rv_record.specs.CellTexts.{entry_cell}
use Rattle.rv_record.specs.EntryReading.{EntryFits}
use Rattle.rv_record.specs.PageCells.{PartsFit, page_cells}
use Rattle.rv_record.specs.Begins.{BreaksPage}
use Rattle.rv_record.specs.PageLaws.{kept_unbroken, none_kept_unbroken}
use Rattle.rv_state.specs.Entering.{IsBrokenEntry}
use Rattle.rv_state.specs.Standing.{Standing}
use Rattle.rv_store.specs.StoreCells.{AreDerived, entry_cells}
use Rattle.rv_store.specs.StoreUniqueLaws.{derived_unique}
use Rattle.rv_store.specs.StoreBookLaws.{AreBeside, HasParts, IsTold, entries_front, entries_beside, kept_parts, kept_unique, page_told, same_book, sound-told}
use Rattle.rv_store.specs.Opening.{IsSoundBook, IsPageOf, MayOpen, BreaksAt, DiffersAt, HasOtherGeneration, HasEntries, IsDamaged, breaks_page, breaks, differs, another, other_shelves, page_shelves, Restores}

-- at most one book opens
pub opens_one : (limit : ℕ) (book other : Book) (loaded : Loaded) → limit < 2 ^ 32 → MayOpen limit book loaded → MayOpen limit other loaded → book ≡ other
opens_one limit book other loaded small opens also = kept_unique book other loaded (sound-told limit book small opens.sound) (sound-told limit other small also.sound) opens.kept also.kept

all_behind : {X : Type 0} (P : X → Type 0) (front : List X) (x : X) (more : List X) → AllByRecursion P (front ++ x ∷ more) → P x
all_behind P [] x more all = all.0
all_behind P (y ∷ front) x more all = all_behind P front x more all.1

-- an entry of a sound book may come after those before it, and so its cell is not broken
not_broken : (limit : ℕ) (book front : Book) (more : List Entry) (entry : Entry) (cell : Cell) → IsSoundBook limit book → book ≡ with_entries front (entry ∷ more) → cell ≡ entry_cell (size front + 1) entry → IsBrokenEntry limit front cell → ⊥
not_broken limit book front more entry cell sound is made broken =
    let below : size front < limit = omega (arith, sound.within, ap size is, size-with_entries front (entry ∷ more)) in
    broken.none entry (all_behind EntryFits front.entries entry more (subst (λ (b : Book). AllByRecursion EntryFits b.entries) is sound.fits)) made below (sound.lawful.each front more entry is)

-- the page that was read is the book's
no_parts : PartsFit no_page
no_parts = record { rows = tt; clients = tt; groups = tt }

read_page : (limit : ℕ) (cells : List Cell) (page own : Page) → limit < 2 ^ 32 → IsPageOf limit cells page → IsOpening own → own.at < 2 ^ 32 → PartsFit own → cells ≡ page_cells own → page ≡ own
read_page limit cells page own small (inl (none, is)) opens low fits are =
    page_told page own (inl is) opens (subst (λ (p : Page). p.at < 2 ^ 32) (sym is) (omega arith)) low (subst PartsFit (sym is) no_parts) fits (ap page_cells is ∙ sym none ∙ are)
read_page limit cells page own small (inr kept) opens low fits are =
    page_told page own (inr (kept.from, kept.sound)) opens (let within = kept.within in omega (arith, within, small)) low kept.fits fits (sym kept.are ∙ are)

module _ (limit : ℕ) (book : Book) (loaded : Loaded) (small : limit < 2 ^ 32) (opens : MayOpen limit book loaded) where
  parts : HasParts book loaded
  parts = kept_parts book loaded opens.kept

  told : IsTold book
  told = sound-told limit book small opens.sound

  page_is : (page : Page) → IsPageOf limit (page_shelves loaded.cells) page → page ≡ book.page
  page_is page read = read_page limit (page_shelves loaded.cells) page book.page small read told.opens told.small told.parts parts.page

  whole_page : (damage : Damage) → ¬ BreaksPage limit (page_shelves loaded.cells) damage
  whole_page damage broken = by told.opens
    where
      by : IsOpening book.page → ⊥
      by (inl none) = none_kept_unbroken limit damage (subst (λ (cells : List Cell). BreaksPage limit cells damage) (parts.page ∙ ap page_cells none) broken)
      by (inr (from, sound)) =
          kept_unbroken limit (page_shelves loaded.cells) book.page damage small (record {
            are = parts.page;
            from = from;
            within = (let within = opens.sound.within in omega (arith, within));
            sound = sound;
            fits = told.parts;
          }) broken

  none_breaks : (page : Page) (damage : Damage) → IsPageOf limit (page_shelves loaded.cells) page → ¬ BreaksAt limit page (other_shelves loaded.cells) damage
  none_breaks page damage read b =
      let same : page ≡ book.page = page_is page read in
      let cells : other_shelves loaded.cells ≡ entry_cells (book.page.at + 1) b.book.entries ++ b.cell ∷ b.others = b.cells ∙ ap (λ (p : Page). entry_cells (p.at + 1) b.book.entries ++ b.cell ∷ b.others) same in
      let rest = entries_front (book.page.at + 1) book.entries b.book.entries parts.others (b.cell ∷ b.others) opens.sound.fits b.sound.fits parts.beside (sym parts.cells ∙ cells) in
      by_rest parts.others rest.0 parts.beside (b.opens ∙ same) (same_book book (with_entries b.book rest.0) (sym (b.opens ∙ same)) rest.1) rest.2
    where
      by_rest : (others : List Cell) (more : List Entry) → AreBeside others → b.book.page ≡ book.page → book ≡ with_entries b.book more → b.cell ∷ b.others ≡ entry_cells ((book.page.at + 1) + length b.book.entries) more ++ others → ⊥
      by_rest others [] beside page_same is cells = let two : 2 ≤ b.cell.shelf = (subst AreBeside (sym cells) beside).0 in omega (arith, b.broken.shelf)
      by_rest others (entry ∷ more) beside page_same is cells =
          let first : b.cell ≡ entry_cell ((book.page.at + 1) + length b.book.entries) entry = cc in
          let place : (book.page.at + 1) + length b.book.entries ≡ size b.book + 1 = omega (arith, ap (λ (p : Page). p.at) page_same) in
          not_broken limit book b.book more entry b.cell opens.sound is (first ∙ ap (λ (n : ℕ). entry_cell n entry) place) b.broken

  -- entries that are read from what is kept, with nothing of shelf 1 beside them, are those of the book, and what follows from the book stands beside them
  pub record IsRead (read : Book) (others : List Cell) : Type 0 where
    pub same : book ≡ read
    pub derived : AreDerived read others

  is_read : (page : Page) (read : Book) (others : List Cell) → IsPageOf limit (page_shelves loaded.cells) page → HasEntries limit page read (other_shelves loaded.cells) others → IsRead read others
  is_read page read others page_read has =
      let same_page : page ≡ book.page = page_is page page_read in
      let cells : other_shelves loaded.cells ≡ entry_cells (book.page.at + 1) read.entries ++ others = has.cells ∙ ap (λ (p : Page). entry_cells (p.at + 1) read.entries ++ others) same_page in
      let both = entries_beside (book.page.at + 1) book.entries read.entries parts.others others opens.sound.fits has.sound.fits parts.beside has.beside (sym parts.cells ∙ cells) in
      let same : book ≡ read = same_book book read (sym (has.opens ∙ same_page)) both.0 in
      record { same = same; derived = subst (λ (b : Book). AreDerived b others) same (subst (AreDerived book) both.1 parts.derived) }

  none_differs : (page : Page) (damage : Damage) → IsPageOf limit (page_shelves loaded.cells) page → ¬ DiffersAt limit page (other_shelves loaded.cells) damage
  none_differs page damage page_read d =
      let read = is_read page d.book d.others page_read d.entries in
      d.difference.differs (ap (find_by cell_key (damage.shelf ∷ damage.key)) (derived_unique d.book d.own d.others d.derived read.derived))

  none_of_another : (page : Page) (damage : Damage) → IsPageOf limit (page_shelves loaded.cells) page → ¬ HasOtherGeneration limit page (other_shelves loaded.cells) loaded.generation damage
  none_of_another page damage page_read other =
      let read = is_read page other.book other.others page_read other.entries in
      other.generation (opens.kept.generation ∙ ap size read.same)

  -- where a book opens, no place is damaged
  pub opens-not_damaged : (damage : Damage) → ¬ IsDamaged limit loaded damage
  opens-not_damaged damage (breaks_page broken) = whole_page damage broken
  opens-not_damaged damage (breaks page read b) = none_breaks page damage read b
  opens-not_damaged damage (differs page read d) = none_differs page damage read d
  opens-not_damaged damage (another page read other) = none_of_another page damage read other

-- Where a book opens, opening answers its state, or that memory was refused.
pub restores-opens : (limit : ℕ) (book : Book) (loaded : Loaded) (result : Result Standing CellFault) → limit < 2 ^ 32 → MayOpen limit book loaded → Restores limit loaded result → MatchResult result (λ state. state.book ≡ book) (λ fault. fault ≡ Memory)
restores-opens limit book loaded (Ok state) small opens restores = opens_one limit state.book book loaded small restores.0 opens
restores-opens limit book loaded (Err (BadCell damage)) small opens damaged = absurd (opens-not_damaged limit book loaded small opens damage damaged)
restores-opens limit book loaded (Err Memory) small opens memory = refl

-- What is kept tells the book: cells are those of one book of entries of the form, and so an opened book is the book that was
-- kept, or the book with what was in doubt.
use Rattle.std.proofs.Common.{◌≡◌, ℕ, ◌+◌, ◌^◌, ◌<◌, ◌≤◌, ◌&&◌, Bool, true, false, cond, not, nat_lt, List, [], ◌∷◌, ◌++◌, length, Some, None, IfSome, refl, sym, ap, ◌∙◌, subst, arith, inl, inr, append-nil}
use Rattle.std.proofs.lemmas.Bool.{lt-ltb}
use Rattle.std.proofs.lemmas.List.Elements.{filter-append}
use Rattle.std.specs.List.{AllByRecursion}
use Rattle.rv_book.specs.declared.entry.Entry.{Entry}
use Rattle.rv_rows.specs.Held.{Stored}
use Rattle.rv_book.specs.declared.page.Page.{Page}
use Rattle.rv_book.specs.Book.{Book, book_from, size, with_entry}
use Rattle.rv_book.specs.BookWordLaws.{size-with_entry}
use Rattle.rv_book.specs.SoundPages.{IsOpening}
use Rattle.rv_history.specs.LawfulBookLaws.{lawful_more}
use Rattle.rv_history.specs.OpeningLaws.{closes_lawful}
use Rattle.rv_history.specs.Served.{Doubt, MayStand, Next, Settles, with_doubt}
use Rattle.rv_history.specs.TurnLaws.{size-with_next}
use Rattle.rv_keeper.specs.declared.cell.Cell.{Cell}
use Rattle.rv_keeper.specs.declared.loaded.Loaded.{Loaded}
use Rattle.rv_record.specs.CellTexts.{entry_cell}
use Rattle.rv_record.specs.EntryCellLaws.{entry_cell_injective}
use Rattle.rv_record.specs.EntryReading.{EntryFits}
use Rattle.rv_news.specs.Records.{Placed}
use Rattle.rv_record.specs.PageCells.{PartsFit, on_page, page_cells}
use Rattle.rv_record.specs.PageLaws.{page_cells-injective, page_cells-on}
use Rattle.rv_record.specs.PartLaws.{written}
use Rattle.rv_state.specs.Ready.{NextFits}
use Rattle.rv_store.specs.Opening.{IsSoundBook, other_shelves, page_shelves}
use Rattle.rv_store.specs.ShelfLaws.{OnShelf, all-append}
use Rattle.rv_store.specs.StoreCells.{AreDerived, IsKeptAs, IsKeptWith, client_cells, derived_cells, entry_cells, group_cells, row_cells, view_cells}
use Rattle.rv_store.specs.StoreOrderLaws.{clients-on, derived-behind, entries-on, groups-on, rows-on, views-on}

-- the cells stand beside the entries, on shelves from 2
abbrev pub AreBeside : List Cell → Type 0
AreBeside cells = AllByRecursion (λ cell. 2 ≤ cell.shelf) cells

-- the cells of two lists of entries, of which the one stands behind the other
entry_cells-append : (place : ℕ) (front more : List Entry) → entry_cells place (front ++ more) ≡ entry_cells place front ++ entry_cells (place + length front) more
entry_cells-append place [] more = ap (λ (p : ℕ). entry_cells p more) (omega arith)
entry_cells-append place (entry ∷ front) more =
    ap (λ (cells : List Cell). entry_cell place entry ∷ cells)
    (entry_cells-append (place + 1) front more ∙ ap (λ (p : ℕ). entry_cells (place + 1) front ++ entry_cells p more) (omega arith))

-- one more entry has its cell at the end
pub entry_cells-with_entry : (place : ℕ) (book : Book) (entry : Entry) → entry_cells place (with_entry book entry).entries ≡ entry_cells place book.entries ++ entry_cell (place + length book.entries) entry ∷ []
entry_cells-with_entry place book entry = entry_cells-append place book.entries (entry ∷ [])

cons_parts : {X : Type 0} (x y : X) (xs ys : List X) → x ∷ xs ≡ y ∷ ys → (x ≡ y) × (xs ≡ ys)
cons_parts x y xs ys same = (cc, cc)

-- a cell of shelf 1 is not the first beside the entries
not_beside : (cell : Cell) (cells others : List Cell) → cell.shelf ≡ 1 → AreBeside others → others ≡ cell ∷ cells → ⊥
not_beside cell cells others first beside same = let above : 2 ≤ cell.shelf = (subst AreBeside same beside).0 in omega arith

-- Of cells of entries and what stands behind them: where nothing behind the first entries is on shelf 1, others that are read
-- from the same cells are a front of them.
pub entries_front : (place : ℕ) (a b : List Entry) (others left : List Cell) → AllByRecursion EntryFits a → AllByRecursion EntryFits b → AreBeside others
    → entry_cells place a ++ others ≡ entry_cells place b ++ left → (more : List Entry) × (a ≡ b ++ more) × (left ≡ entry_cells (place + length b) more ++ others)
entries_front place a [] others left one other beside same = (a, refl, sym same ∙ ap (λ (p : ℕ). entry_cells p a ++ others) (omega arith))
entries_front place [] (y ∷ ys) others left one other beside same = absurd (not_beside (entry_cell place y) (entry_cells (place + 1) ys ++ left) others refl beside same)
entries_front place (x ∷ xs) (y ∷ ys) others left one other beside same =
    let parts = cons_parts (entry_cell place x) (entry_cell place y) (entry_cells (place + 1) xs ++ others) (entry_cells (place + 1) ys ++ left) same in
    let entry = entry_cell_injective place x y one.0 other.0 parts.0 in
    let rest = entries_front (place + 1) xs ys others left one.1 other.1 beside parts.1 in
    (rest.0, (λ i. entry i ∷ rest.1 i), rest.2 ∙ ap (λ (p : ℕ). entry_cells p rest.0 ++ others) (omega arith))

-- entries and the cells beside them are found in what is kept
pub entries_beside : (place : ℕ) (a b : List Entry) (others left : List Cell) → AllByRecursion EntryFits a → AllByRecursion EntryFits b
    → AreBeside others → AreBeside left → entry_cells place a ++ others ≡ entry_cells place b ++ left → (a ≡ b) × (others ≡ left)
entries_beside place [] [] others left one other beside also same = (refl, same)
entries_beside place [] (y ∷ ys) others left one other beside also same = absurd (not_beside (entry_cell place y) (entry_cells (place + 1) ys ++ left) others refl beside same)
entries_beside place (x ∷ xs) [] others left one other beside also same = absurd (not_beside (entry_cell place x) (entry_cells (place + 1) xs ++ others) left refl also (sym same))
entries_beside place (x ∷ xs) (y ∷ ys) others left one other beside also same =
    let parts = cons_parts (entry_cell place x) (entry_cell place y) (entry_cells (place + 1) xs ++ others) (entry_cells (place + 1) ys ++ left) same in
    let entry = entry_cell_injective place x y one.0 other.0 parts.0 in
    let rest = entries_beside (place + 1) xs ys others left one.1 other.1 beside also parts.1 in
    ((λ i. entry i ∷ rest.0 i), rest.1)

-- ---- The shelves of a page, and the others.

-- cells on a shelf that is none of a page
pub off_page : (shelf : ℕ) (cells : List Cell) → (nat_lt 5 shelf && nat_lt shelf 10) ≡ false → OnShelf shelf cells → AllByRecursion (λ cell. on_page cell ≡ false) cells
off_page shelf [] apart all = tt
off_page shelf (cell ∷ cells) apart all = (subst (λ (s : ℕ). (nat_lt 5 s && nat_lt s 10) ≡ false) (sym all.0) apart, off_page shelf cells apart all.1)

pub page_shelves-none : (cells : List Cell) → AllByRecursion (λ cell. on_page cell ≡ false) cells → page_shelves cells ≡ []
page_shelves-none [] all = refl
page_shelves-none (cell ∷ cells) all = ap (λ (b : Bool). cond b (cell ∷ page_shelves cells) (page_shelves cells)) all.0 ∙ page_shelves-none cells all.1

pub other_shelves-all : (cells : List Cell) → AllByRecursion (λ cell. on_page cell ≡ false) cells → other_shelves cells ≡ cells
other_shelves-all [] all = refl
other_shelves-all (cell ∷ cells) all = ap (λ (b : Bool). cond (not b) (cell ∷ other_shelves cells) (other_shelves cells)) all.0 ∙ ap (λ (cs : List Cell). cell ∷ cs) (other_shelves-all cells all.1)

pub page_shelves-all : (cells : List Cell) → AllByRecursion (λ cell. on_page cell ≡ true) cells → page_shelves cells ≡ cells
page_shelves-all [] all = refl
page_shelves-all (cell ∷ cells) all = ap (λ (b : Bool). cond b (cell ∷ page_shelves cells) (page_shelves cells)) all.0 ∙ ap (λ (cs : List Cell). cell ∷ cs) (page_shelves-all cells all.1)

pub other_shelves-none : (cells : List Cell) → AllByRecursion (λ cell. on_page cell ≡ true) cells → other_shelves cells ≡ []
other_shelves-none [] all = refl
other_shelves-none (cell ∷ cells) all = ap (λ (b : Bool). cond (not b) (cell ∷ other_shelves cells) (other_shelves cells)) all.0 ∙ other_shelves-none cells all.1

pub are_on_page : (cells : List Cell) → AllByRecursion (λ cell. (5 < cell.shelf) × (cell.shelf < 10)) cells → AllByRecursion (λ cell. on_page cell ≡ true) cells
are_on_page [] all = tt
are_on_page (cell ∷ cells) all = ((λ i. lt-ltb 5 cell.shelf all.0.0 i && lt-ltb cell.shelf 10 all.0.1 i), are_on_page cells all.1)

derived-off : (book : Book) (rows : List Stored) (records : List Placed) → AllByRecursion (λ cell. on_page cell ≡ false) (derived_cells book rows records)
derived-off book rows records =
    all-append (λ cell. on_page cell ≡ false) (row_cells rows) (client_cells book ++ (group_cells book ++ view_cells records)) (off_page 2 (row_cells rows) refl (rows-on rows))
    (all-append (λ cell. on_page cell ≡ false) (client_cells book) (group_cells book ++ view_cells records) (off_page 3 (client_cells book) refl (clients-on book))
    (all-append (λ cell. on_page cell ≡ false) (group_cells book) (view_cells records) (off_page 4 (group_cells book) refl (groups-on book)) (off_page 5 (view_cells records) refl (views-on records))))

-- what is held of a book: the page's cells on the page's shelves, and on the others its entries, and beside them what follows from them
pub record HasParts (book : Book) (held : Loaded) : Type 0 where
  pub others : List Cell
  pub page : page_shelves held.cells ≡ page_cells book.page
  pub cells : other_shelves held.cells ≡ entry_cells (book.page.at + 1) book.entries ++ others
  pub beside : AreBeside others
  pub derived : AreDerived book others

pub kept_parts : (book : Book) (held : Loaded) → IsKeptAs book held → HasParts book held
kept_parts book held kept =
    let entries : List Cell = entry_cells (book.page.at + 1) book.entries in
    let others : List Cell = derived_cells book kept.cells.rows kept.cells.records in
    let on = are_on_page (page_cells book.page) (page_cells-on book.page) in
    let entries_off = off_page 1 entries refl (entries-on (book.page.at + 1) book.entries) in
    let others_off = derived-off book kept.cells.rows kept.cells.records in
    record {
      others = others;
      page =
          ap page_shelves kept.cells.made ∙ filter-append on_page entries (others ++ page_cells book.page)
          ∙ (λ i. page_shelves-none entries entries_off i ++ (filter-append on_page others (page_cells book.page) ∙ (λ j. page_shelves-none others others_off j ++ page_shelves-all (page_cells book.page) on j)) i);
      cells =
          ap other_shelves kept.cells.made ∙ filter-append (λ cell. not (on_page cell)) entries (others ++ page_cells book.page)
          ∙ (λ i. other_shelves-all entries entries_off i ++ (filter-append (λ cell. not (on_page cell)) others (page_cells book.page) ∙ (λ j. other_shelves-all others others_off j ++ other_shelves-none (page_cells book.page) on j) ∙ append-nil others) i);
      beside = derived-behind book kept.cells.rows kept.cells.records;
      derived = record { rows = kept.cells.rows; records = kept.cells.records; replay = kept.cells.replay; kept = kept.cells.kept; made = refl };
    }

-- ---- The book that is told.

-- A book whose cells tell it: it opens without a page or with a sound one, at the place of a cell, and its entries and its page are of the form.
pub record IsTold (book : Book) : Type 0 where
  pub opens : IsOpening book.page
  pub small : book.page.at < 2 ^ 32
  pub fits : AllByRecursion EntryFits book.entries
  pub parts : PartsFit book.page

pub sound-told : (limit : ℕ) (book : Book) → limit < 2 ^ 32 → IsSoundBook limit book → IsTold book
sound-told limit book small sound = record { opens = sound.lawful.opens; small = (let within = sound.within in omega (arith, within, small)); fits = sound.fits; parts = sound.parts }

-- the cells of a page tell the page, and that there is none
pub page_told : (a b : Page) → IsOpening a → IsOpening b → a.at < 2 ^ 32 → b.at < 2 ^ 32 → PartsFit a → PartsFit b → page_cells a ≡ page_cells b → a ≡ b
page_told a b (inl none) (inl also) small low fits fit same = none ∙ sym also
page_told a b (inl none) (inr (from, sound)) small low fits fit same = absurd (nothing_written b from (sym same ∙ ap page_cells none))
  where
    nothing_written : (page : Page) → 1 ≤ page.at → page_cells page ≡ [] → ⊥
    nothing_written page from none = let both = sym (written page from) ∙ none in cc
page_told a b (inr (from, sound)) (inl none) small low fits fit same = absurd (nothing_written a from (same ∙ ap page_cells none))
  where
    nothing_written : (page : Page) → 1 ≤ page.at → page_cells page ≡ [] → ⊥
    nothing_written page from none = let both = sym (written page from) ∙ none in cc
page_told a b (inr (from, sound)) (inr (also, sounds)) small low fits fit same = page_cells-injective a b small low fits fit same from also

-- books with one page are the same where their entries are
pub same_book : (a b : Book) → a.page ≡ b.page → a.entries ≡ b.entries → a ≡ b
same_book a b page same = (λ i. book_from (page i) (same i))

-- what is kept is that of one book
pub kept_unique : (a b : Book) (held : Loaded) → IsTold a → IsTold b → IsKeptAs a held → IsKeptAs b held → a ≡ b
kept_unique a b held one other kept also =
    let first = kept_parts a held kept in
    let second = kept_parts b held also in
    let page : a.page ≡ b.page = page_told a.page b.page one.opens other.opens one.small other.small one.parts other.parts (sym first.page ∙ second.page) in
    let place : entry_cells (b.page.at + 1) b.entries ≡ entry_cells (a.page.at + 1) b.entries = ap (λ (p : Page). entry_cells (p.at + 1) b.entries) (sym page) in
    same_book a b page (entries_beside (a.page.at + 1) a.entries b.entries first.others second.others one.fits other.fits first.beside second.beside (sym first.cells ∙ second.cells ∙ ap (λ (cells : List Cell). cells ++ second.others) place)).0

-- a sound book with what is in doubt is sound too
pub doubt_sound : (limit : ℕ) (book : Book) (doubt : Doubt) → IsSoundBook limit book → IfSome doubt NextFits → MayStand book limit doubt → IsSoundBook limit (with_doubt book doubt)
doubt_sound limit book None sound fits next = sound
doubt_sound limit book (Some (Next.entry entry)) sound fits (next, below) = record {
  lawful = lawful_more book entry sound.lawful next;
  within = omega (arith, size-with_entry book entry, below);
  fits = all-append EntryFits book.entries (entry ∷ []) sound.fits (fits, tt);
  parts = sound.parts;
}
doubt_sound limit book (Some (Next.closed closed)) sound fits (closes, below) = record {
  lawful = closes_lawful book closed closes sound.lawful;
  within = omega (arith, size-with_next book (Next.closed closed) closes, below);
  fits = subst (λ (b : Book). AllByRecursion EntryFits b.entries) (sym closes.is) tt;
  parts = fits;
}

-- A book that opens from what is kept is the settled book: what was in doubt was dropped or entered.
pub settled_unique : (limit : ℕ) (book opened : Book) (doubt : Doubt) (held : Loaded) → limit < 2 ^ 32 → IsSoundBook limit book → IfSome doubt NextFits → MayStand book limit doubt → IsTold opened → IsKeptAs opened held → IsKeptWith book doubt held → Settles book doubt opened
settled_unique limit book opened doubt held small sound fits next own is (inl kept) = inl (kept_unique opened book held own (sound-told limit book small sound) is kept)
settled_unique limit book opened doubt held small sound fits next own is (inr kept) = inr (kept_unique opened (with_doubt book doubt) held own (sound-told limit (with_doubt book doubt) small (doubt_sound limit book doubt sound fits next)) is kept)

-- What opens from cells that are parted by their shelves: those before a page's, the page's, and those behind.
use Rattle.std.proofs.Common.{◌≡◌, ℕ, zero, suc, ◌+◌, ◌<◌, ◌≤◌, ◌&&◌, Bool, true, false, not, nat_le, nat_lt, List, [], ◌∷◌, ◌++◌, length, get_or, take, drop, Option, Some, None, Result, Ok, Err, IsErrAnd, refl, sym, ap, ◌∙◌, subst, arith, inl, inr, append-nil, append_assoc}
use Rattle.std.specs.List.{AllByRecursion}
use Rattle.std.specs.List.Sorted.{IsPartitionedBy}
use Rattle.std.proofs.lemmas.Bool.Decides.{nat_tests}
use Rattle.std.proofs.lemmas.List.Elements.{filter-append}
use Rattle.rv_base.specs.Sorted.{InOrder}
use Rattle.rv_base.specs.PositionLaws.{Above}
use Rattle.rv_book.specs.declared.page.Page.{Page}
use Rattle.rv_book.specs.Book.{Book, size}
use Rattle.rv_keeper.specs.declared.cell.Cell.{Cell}
use Rattle.rv_keeper.specs.declared.loaded.Loaded.{Loaded}
use Rattle.rv_keeper.specs.Cells.{cell_key}
use Rattle.rv_record.specs.declared.fault.CellFault.{CellFault}
use Rattle.rv_record.specs.declared.fault.CellFault.TheVariants.{BadCell, Memory}
use Rattle.rv_record.specs.declared.fault.Damage.{Damage}
use Rattle.rv_record.specs.declared.page_read.PageRead.{PageRead}
use Rattle.rv_record.specs.Begins.{BreaksPage}
use Rattle.rv_record.specs.PageCells.{on_page, page_cells}
use Rattle.rv_record.specs.PageReads.{ReadsPage}
use Rattle.rv_state.specs.Standing.{Standing}
use Rattle.rv_store.specs.Opening.{BreaksAt, HasEntries, IsDamaged, IsPageOf, MayOpen, Restores, another, breaks, breaks_page, differs, other_shelves, page_shelves}
use Rattle.rv_store.specs.OpeningSteps.{ComparesOthers, EntersAll, page_or_none}
use Rattle.rv_store.specs.StoreBookLaws.{are_on_page, other_shelves-all, other_shelves-none, page_shelves-all, page_shelves-none}
use Rattle.rv_store.specs.ShelfLaws.{all-append, lower_shelf}
use Rattle.rv_store.specs.StoreCells.{AreDerived, derived_cells, entry_cells}
use Rattle.rv_store.proofs.Behind.{derived-low, front_in_order}
use Rattle.rv_store.proofs.Entered.{shelf_below}

-- ---- A cut.

-- of cells in order no later one stands on an earlier shelf
later_shelf : (x : Cell) (xs : List Cell) (j : ℕ) (d : Cell) → Above cell_key (cell_key x) xs → j < length xs → x.shelf ≤ (get_or xs j d).shelf
later_shelf x [] j d above below = absurd (omega arith)
later_shelf x (y ∷ xs) zero d above below = shelf_below x y above.0
later_shelf x (y ∷ xs) (suc j) d above below = later_shelf x xs j d above.1 (omega arith)

rising : (xs : List Cell) (i j : ℕ) (d : Cell) → InOrder cell_key xs → i ≤ j → j < length xs → (get_or xs i d).shelf ≤ (get_or xs j d).shelf
rising [] i j d order le below = absurd (omega arith)
rising (x ∷ xs) zero zero d order le below = omega arith
rising (x ∷ xs) zero (suc j) d order le below = later_shelf x xs j d order.0 (omega arith)
rising (x ∷ xs) (suc i) zero d order le below = absurd (omega (arith, le))
rising (x ∷ xs) (suc i) (suc j) d order le below = rising xs i j d order.1 (omega (arith, le)) (omega arith)

pub parted : (shelf : ℕ) (xs : List Cell) → InOrder cell_key xs → IsPartitionedBy (λ cell. nat_le cell.shelf shelf) xs
parted shelf xs order = λ i j d le below passes. let rises = rising xs i j d order le below in grind (arith, nat_tests)

pub all_taken : (P : Cell → Type 0) (n : ℕ) (xs : List Cell) → ((k : ℕ) (d : Cell) → k < n → k < length xs → P (get_or xs k d)) → AllByRecursion P (take n xs)
all_taken P zero xs each = tt
all_taken P (suc n) [] each = tt
all_taken P (suc n) (x ∷ xs) each = (each 0 x (omega arith) (omega arith), all_taken P n xs (λ k d below within. each (suc k) d (omega (arith, below)) (omega (arith, within))))

pub all_dropped : (P : Cell → Type 0) (n : ℕ) (xs : List Cell) → ((k : ℕ) (d : Cell) → n ≤ k → k < length xs → P (get_or xs k d)) → AllByRecursion P (drop n xs)
all_dropped P zero [] each = tt
all_dropped P zero (x ∷ xs) each = (each 0 x (omega arith) (omega arith), all_dropped P zero xs (λ k d from within. each (suc k) d (omega arith) (omega (arith, within))))
all_dropped P (suc n) [] each = tt
all_dropped P (suc n) (x ∷ xs) each = all_dropped P n xs (λ k d from within. each (suc k) d (omega (arith, from)) (omega (arith, within)))

-- ---- Three parts.

behind_in_order : (xs ys : List Cell) → InOrder cell_key (xs ++ ys) → InOrder cell_key ys
behind_in_order [] ys order = order
behind_in_order (x ∷ xs) ys order = behind_in_order xs ys order.1

pub rest_in_order : (all front rest : List Cell) → all ≡ front ++ rest → InOrder cell_key all → InOrder cell_key rest
rest_in_order all front rest whole order = behind_in_order front rest (subst (InOrder cell_key) whole order)

low_off : (cells : List Cell) → AllByRecursion (λ cell. cell.shelf < 6) cells → AllByRecursion (λ cell. on_page cell ≡ false) cells
low_off [] all = tt
low_off (cell ∷ cells) all = (ap (λ (b : Bool). b && nat_lt cell.shelf 10) (no_less all.0), low_off cells all.1)
  where
    no_less : cell.shelf < 6 → nat_lt 5 cell.shelf ≡ false
    no_less low = grind (arith, nat_tests)

far_off : (cells : List Cell) → AllByRecursion (λ cell. 9 < cell.shelf) cells → AllByRecursion (λ cell. on_page cell ≡ false) cells
far_off [] all = tt
far_off (cell ∷ cells) all = (both (nat_lt 5 cell.shelf) (no_less all.0), far_off cells all.1)
  where
    no_less : 9 < cell.shelf → nat_lt cell.shelf 10 ≡ false
    no_less high = grind (arith, nat_tests)

    both : (a : Bool) → nat_lt cell.shelf 10 ≡ false → (a && nat_lt cell.shelf 10) ≡ false
    both true is = is
    both false is = refl

within : (cells : List Cell) → AllByRecursion (λ cell. 5 < cell.shelf) cells → AllByRecursion (λ cell. cell.shelf < 10) cells → AllByRecursion (λ cell. (5 < cell.shelf) × (cell.shelf < 10)) cells
within [] from to = tt
within (cell ∷ cells) from to = ((omega (arith, from.0), to.0), within cells from.1 to.1)

pub all_front : (P : Cell → Type 0) (xs ys : List Cell) → AllByRecursion P (xs ++ ys) → AllByRecursion P xs
all_front P [] ys all = tt
all_front P (x ∷ xs) ys all = (all.0, all_front P xs ys all.1)

-- the cells before a page's, the page's, and those behind
pub record Parted (all front paged behind : List Cell) : Type 0 where
  pub whole : all ≡ front ++ (paged ++ behind)
  pub low : AllByRecursion (λ cell. cell.shelf < 6) front
  pub from : AllByRecursion (λ cell. 5 < cell.shelf) paged
  pub to : AllByRecursion (λ cell. cell.shelf < 10) paged
  pub far : AllByRecursion (λ cell. 9 < cell.shelf) behind

pub parts_of : (all front rest paged behind : List Cell) → all ≡ front ++ rest → AllByRecursion (λ cell. cell.shelf < 6) front → AllByRecursion (λ cell. 5 < cell.shelf) rest → rest ≡ paged ++ behind → AllByRecursion (λ cell. cell.shelf < 10) paged → AllByRecursion (λ cell. 9 < cell.shelf) behind
    → Parted all front paged behind
parts_of all front rest paged behind whole low from more to far = record {
  whole = whole ∙ ap (λ (cells : List Cell). front ++ cells) more;
  low = low;
  from = all_front (λ cell. 5 < cell.shelf) paged behind (subst (AllByRecursion (λ cell. 5 < cell.shelf)) more from);
  to = to;
  far = far;
}

module _ (all front paged behind : List Cell) (p : Parted all front paged behind) where
  pub paged_are : page_shelves all ≡ paged
  paged_are =
      ap page_shelves p.whole ∙ filter-append on_page front (paged ++ behind)
      ∙ (λ i. page_shelves-none front (low_off front p.low) i ++ (filter-append on_page paged behind ∙ (λ j. page_shelves-all paged (are_on_page paged (within paged p.from p.to)) j ++ page_shelves-none behind (far_off behind p.far) j) ∙ append-nil paged) i)

  pub others_are : other_shelves all ≡ front ++ behind
  others_are =
      ap other_shelves p.whole ∙ filter-append (λ cell. not (on_page cell)) front (paged ++ behind)
      ∙ (λ i. other_shelves-all front (low_off front p.low) i ++ (filter-append (λ cell. not (on_page cell)) paged behind ∙ (λ j. other_shelves-none paged (are_on_page paged (within paged p.from p.to)) j ++ other_shelves-all behind (far_off behind p.far) j)) i)

-- ---- The page that was read.

page_of : (limit : ℕ) (cells : List Cell) (page : Option PageRead) → ReadsPage limit cells (Ok page) → IsPageOf limit cells (page_or_none page)
page_of limit cells None none = inl (none, refl)
page_of limit cells (Some read) told = inr told.0

written_page : (limit : ℕ) (cells : List Cell) (page : Option PageRead) → ReadsPage limit cells (Ok page) → cells ≡ page_cells (page_or_none page)
written_page limit cells None none = none
written_page limit cells (Some read) told = told.0.are

-- ---- What is answered of all the cells.

module _ (limit : ℕ) (loaded : Loaded) (front paged behind : List Cell) (p : Parted loaded.cells front paged behind) where
  pub page_fails : (fault : CellFault) (r : Result Standing CellFault) → IsErrAnd r (λ d. d ≡ fault) → ReadsPage limit paged (Err fault) → Restores limit loaded r
  page_fails fault (Ok state) fails reads = absurd fails
  page_fails fault (Err (BadCell damage)) fails reads =
      let told : ReadsPage limit paged (Err (BadCell damage)) = subst (λ (f : CellFault). ReadsPage limit paged (Err f)) (sym fails) reads in
      breaks_page (subst (λ (cells : List Cell). BreaksPage limit cells damage) (sym (paged_are loaded.cells front paged behind p)) told)
  page_fails fault (Err Memory) fails reads = tt

  module _ (page : Option PageRead) (read : ReadsPage limit paged (Ok page)) where
    abbrev opened : Page
    opened = page_or_none page

    is_page : IsPageOf limit (page_shelves loaded.cells) opened
    is_page = subst (λ (cells : List Cell). IsPageOf limit cells opened) (sym (paged_are loaded.cells front paged behind p)) (page_of limit paged page read)

    others_whole : front ++ behind ≡ other_shelves loaded.cells
    others_whole = sym (others_are loaded.cells front paged behind p)

    breaks_longer : (damage : Damage) → BreaksAt limit opened front damage → BreaksAt limit opened (other_shelves loaded.cells) damage
    breaks_longer damage b = subst (λ (cells : List Cell). BreaksAt limit opened cells damage) others_whole (record {
      book = b.book;
      cell = b.cell;
      others = b.others ++ behind;
      opens = b.opens;
      cells = ap (λ (cells : List Cell). cells ++ behind) b.cells ∙ append_assoc (entry_cells (opened.at + 1) b.book.entries) (b.cell ∷ b.others) behind;
      sound = b.sound;
      broken = b.broken;
      at = b.at;
    })

    pub entries_fail : (fault : CellFault) (r : Result Standing CellFault) → IsErrAnd r (λ d. d ≡ fault) → EntersAll limit opened front (Err fault) → Restores limit loaded r
    entries_fail fault (Ok state) fails enters = absurd fails
    entries_fail fault (Err (BadCell damage)) fails enters = breaks opened is_page (breaks_longer damage (subst (λ (f : CellFault). EntersAll limit opened front (Err f)) (sym fails) enters))
    entries_fail fault (Err Memory) fails enters = tt

    far_beside : (cells : List Cell) → AllByRecursion (λ cell. 9 < cell.shelf) cells → AllByRecursion (λ cell. 1 < cell.shelf) cells
    far_beside [] all = tt
    far_beside (cell ∷ cells) all = (omega (arith, all.0), far_beside cells all.1)

    beside_both : (xs ys : List Cell) → AllByRecursion (λ cell. 1 < cell.shelf) xs → AllByRecursion (λ cell. 1 < cell.shelf) ys → AllByRecursion (λ cell. 1 < cell.shelf) (xs ++ ys)
    beside_both [] ys all also = also
    beside_both (x ∷ xs) ys all also = (all.0, beside_both xs ys all.1 also)

    module _ (state : Standing) (others : List Cell) (has : HasEntries limit opened state.book front others) where
      has_longer : HasEntries limit opened state.book (other_shelves loaded.cells) (others ++ behind)
      has_longer = subst (λ (cells : List Cell). HasEntries limit opened state.book cells (others ++ behind)) others_whole (record {
        opens = has.opens;
        cells = ap (λ (cells : List Cell). cells ++ behind) has.cells ∙ append_assoc (entry_cells (opened.at + 1) state.book.entries) others behind;
        beside = beside_both others behind has.beside (far_beside behind p.far);
        sound = has.sound;
      })

      pub others_fail : (fault : CellFault) (r : Result Standing CellFault) → IsErrAnd r (λ d. d ≡ fault) → ComparesOthers state.book (others ++ behind) (Err fault) → Restores limit loaded r
      others_fail fault (Ok s) fails compares = absurd fails
      others_fail fault (Err (BadCell damage)) fails compares =
          let told : ComparesOthers state.book (others ++ behind) (Err (BadCell damage)) = subst (λ (f : CellFault). ComparesOthers state.book (others ++ behind) (Err f)) (sym fails) compares in
          differs opened is_page (record { book = state.book; others = others ++ behind; own = told.0; entries = has_longer; derived = told.1; difference = told.2 })
      others_fail fault (Err Memory) fails compares = tt

      pub other_generation : (damage : Damage) → AreDerived state.book (others ++ behind) → ¬ (loaded.generation ≡ size state.book) → damage ≡ record { shelf = 0; key = [] } → IsDamaged limit loaded damage
      other_generation damage derived apart is = another opened is_page (record { book = state.book; others = others ++ behind; entries = has_longer; derived = derived; generation = apart; at = is })

      none_behind : (xs ys : List Cell) → AllByRecursion (λ cell. cell.shelf < 10) (xs ++ ys) → AllByRecursion (λ cell. 9 < cell.shelf) ys → ys ≡ []
      none_behind [] [] low far = refl
      none_behind [] (y ∷ ys) low far = absurd (omega (arith, low.0, far.0))
      none_behind (x ∷ xs) ys low far = none_behind xs ys low.1 far

      pub may_open : AreDerived state.book (others ++ behind) → loaded.generation ≡ size state.book → MayOpen limit state.book loaded
      may_open derived same =
          let nothing : behind ≡ [] = none_behind others behind (subst (AllByRecursion (λ cell. cell.shelf < 10)) (sym derived.made) (derived-low state.book derived.rows derived.records)) p.far in
          let made : others ≡ derived_cells state.book derived.rows derived.records = sym (append-nil others) ∙ ap (λ (cells : List Cell). others ++ cells) (sym nothing) ∙ derived.made in
          let page : paged ≡ page_cells state.book.page = written_page limit paged page read ∙ ap page_cells (sym has.opens) in
          let entries : entry_cells (opened.at + 1) state.book.entries ≡ entry_cells (state.book.page.at + 1) state.book.entries = ap (λ (pg : Page). entry_cells (pg.at + 1) state.book.entries) (sym has.opens) in
          record {
            sound = has.sound;
            kept = record {
              cells = record {
                rows = derived.rows;
                records = derived.records;
                replay = derived.replay;
                kept = derived.kept;
                made = p.whole ∙ ap (λ (cells : List Cell). front ++ (paged ++ cells)) nothing ∙ ap (λ (cells : List Cell). front ++ cells) (append-nil paged)
                    ∙ ap (λ (cells : List Cell). cells ++ paged) (has.cells ∙ (λ i. entries i ++ made i))
                    ∙ append_assoc (entry_cells (state.book.page.at + 1) state.book.entries) (derived_cells state.book derived.rows derived.records) paged
                    ∙ ap (λ (cells : List Cell). entry_cells (state.book.page.at + 1) state.book.entries ++ (derived_cells state.book derived.rows derived.records ++ cells)) page;
              };
              generation = same;
            };
          }

-- ---- What stands beside the cells of the entries and of a page.

low_far : (xs ys : List Cell) → AllByRecursion (λ cell. cell.shelf < 6) xs → AllByRecursion (λ cell. 9 < cell.shelf) ys → InOrder cell_key xs → InOrder cell_key ys → InOrder cell_key (xs ++ ys)
low_far [] ys low far order also = also
low_far (x ∷ xs) ys low far order also = (above xs order.0, low_far xs ys low.1 far order.1 also)
  where
    higher : (zs : List Cell) → AllByRecursion (λ cell. 9 < cell.shelf) zs → Above cell_key (cell_key x) zs
    higher [] all = tt
    higher (z ∷ zs) all = (lower_shelf x.shelf z.shelf x.key z.key (omega (arith, low.0, all.0)), higher zs all.1)

    above : (zs : List Cell) → Above cell_key (cell_key x) zs → Above cell_key (cell_key x) (zs ++ ys)
    above [] all = higher ys far
    above (z ∷ zs) all = (all.0, above zs all.1)

pub without_page : (entries derived paged behind : List Cell) → InOrder cell_key (entries ++ (derived ++ (paged ++ behind))) → AllByRecursion (λ cell. cell.shelf < 6) derived → AllByRecursion (λ cell. 9 < cell.shelf) behind → InOrder cell_key (derived ++ behind)
without_page entries derived paged behind order low far =
    let others = behind_in_order entries (derived ++ (paged ++ behind)) order in
    low_far derived behind low far (front_in_order derived (paged ++ behind) others) (behind_in_order paged behind (behind_in_order derived (paged ++ behind) others))

-- ---- The entries with the cells after them.

first_low : (cells : List Cell) → AllByRecursion (λ cell. cell.shelf ≡ 1) cells → AllByRecursion (λ cell. cell.shelf < 6) cells
first_low [] all = tt
first_low (cell ∷ cells) all = (omega (arith, all.0), first_low cells all.1)

-- the cells of the entries and those that follow from the book stand before a page's
pub front_of : (all entries others derived rest paged behind : List Cell) → all ≡ entries ++ others → AllByRecursion (λ cell. cell.shelf ≡ 1) entries → others ≡ derived ++ rest → AllByRecursion (λ cell. cell.shelf < 6) derived → AllByRecursion (λ cell. 5 < cell.shelf) rest
    → rest ≡ paged ++ behind → AllByRecursion (λ cell. cell.shelf < 10) paged → AllByRecursion (λ cell. 9 < cell.shelf) behind → Parted all (entries ++ derived) paged behind
front_of all entries others derived rest paged behind whole first parts low from more to far =
    parts_of all (entries ++ derived) rest paged behind (whole ∙ ap (λ (cells : List Cell). entries ++ cells) parts ∙ sym (append_assoc entries derived rest))
    (all-append (λ cell. cell.shelf < 6) entries derived (first_low entries first) low) from more to far

pub fails_longer : (limit : ℕ) (page : Page) (entries derived : List Cell) (fault : CellFault) → EntersAll limit page entries (Err fault) → EntersAll limit page (entries ++ derived) (Err fault)
fails_longer limit page entries derived (BadCell damage) b = record {
  book = b.book;
  cell = b.cell;
  others = b.others ++ derived;
  opens = b.opens;
  cells = ap (λ (cells : List Cell). cells ++ derived) b.cells ∙ append_assoc (entry_cells (page.at + 1) b.book.entries) (b.cell ∷ b.others) derived;
  sound = b.sound;
  broken = b.broken;
  at = b.at;
}
fails_longer limit page entries derived Memory enters = tt

pub has_derived : (limit : ℕ) (page : Page) (book : Book) (entries others derived rest : List Cell) → HasEntries limit page book entries [] → others ≡ derived ++ rest → AllByRecursion (λ cell. 1 < cell.shelf) others → HasEntries limit page book (entries ++ derived) derived
has_derived limit page book entries others derived rest has parts beside = record {
  opens = has.opens;
  cells = ap (λ (cells : List Cell). cells ++ derived) (has.cells ∙ append-nil (entry_cells (page.at + 1) book.entries));
  beside = all_front (λ cell. 1 < cell.shelf) derived rest (subst (AllByRecursion (λ cell. 1 < cell.shelf)) parts beside);
  sound = has.sound;
}

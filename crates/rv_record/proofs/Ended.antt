-- The page as its cells end, and as they begin.
use Rattle.std.proofs.Common.{◌≡◌, ℕ, ◌+◌, ◌^◌, ◌<◌, ◌≤◌, ◌↔◌, ◌==◌, Bool, true, false, cond, List, [], ◌∷◌, ◌++◌, length, get_or, take, drop, map, Option, IsTrue, Result, Ok, Err, IsErrAnd, refl, sym, ap, ◌∙◌, subst, arith, append_assoc, inl, inr}
use Rattle.std.specs.Option.{IsSome}
use Rattle.std.specs.List.{AllByRecursion}
use Rattle.std.proofs.lemmas.Bool.Decides.{Decides-eqb}
use Rattle.std.proofs.lemmas.List.{take-append-drop, take_more, drop_more, take_all}
use Rattle.rv_base.specs.Sorted.{find_by, InOrder, Below}
use Rattle.rv_base.specs.PositionLaws.{in_order-filter}
use Rattle.rv_book.specs.declared.page.Page.{Page}
use Rattle.rv_book.specs.SoundPages.{IsSoundPage}
use Rattle.rv_keeper.specs.declared.cell.Cell.{Cell}
use Rattle.rv_keeper.specs.Cells.{cell_key}
use Rattle.rv_record.specs.CellTexts.{page_cell}
use Rattle.rv_record.specs.declared.fault.CellFault.{CellFault}
use Rattle.rv_record.specs.declared.fault.CellFault.TheVariants.{BadCell, Memory}
use Rattle.rv_record.specs.CellReading.{Blames, PageFits, ReadsCell}
use Rattle.rv_record.specs.declared.page_read.PageRead.{PageRead}
use Rattle.rv_record.specs.PageCells.{PageClient, PageGroup, page_cells, parts_of}
use Rattle.rv_record.specs.Begins.{Begins, BreaksOff, named_groups, with_groups}
use Rattle.rv_record.specs.PageReads.{BeginsWith, Follows, HasBegun, IsKeptPage, ReadsPage, TakesNext}
use Rattle.rv_record.specs.ListLaws.{below-last, cons_parts, in_order-left}
use Rattle.rv_record.specs.PartLaws.{on, place_same, written}
use Rattle.rv_record.specs.PageLaws.{named_own}
use Rattle.rv_record.proofs.Steps.{one_shelf}

-- ---- As they end.

all_homes : (page : Page) → 1 ≤ page.at → (clients : List PageClient) → AllByRecursion (λ c. IsSome (find_by (λ (g : PageGroup). g.0) c.1 (named_groups (page_cells page)))) clients → AllByRecursion (λ c. IsSome (find_by (λ (g : PageGroup). g.0) c.1 page.groups)) clients
all_homes page from [] all = tt
all_homes page from (c ∷ clients) all = (sym (named_own c.1 page from) ∙ all.0, all_homes page from clients all.1)

pub kept_page : (limit : ℕ) (cells : List Cell) (read : PageRead) → HasBegun limit cells read → cells ≡ page_cells read.page → IsKeptPage limit cells read.page
kept_page limit cells read has are =
    let begins = has.begins in
    let named = subst (λ (cs : List Cell). IsSoundPage (with_groups (named_groups cs) read.page)) are begins.sound in
    record {
      are = are;
      from = begins.from;
      within = begins.within;
      fits = begins.fits;
      sound = record {
        rows = named.rows;
        clients = named.clients;
        groups = begins.groups;
        listed = named.listed;
        once = named.once;
        others = named.others;
        versions = named.versions;
        lasts = named.lasts;
        homes = all_homes read.page begins.from read.page.clients named.homes;
      };
    }

-- ---- As they begin.

nines_if : (c : Cell) (cs : List Cell) (b : Bool) → (c.shelf == 9) ≡ b → AllByRecursion (λ d. d.shelf ≡ 9) cs → AllByRecursion (λ d. d.shelf ≡ 9) (cond b (c ∷ cs) cs)
nines_if c cs true is rest = ((Decides-eqb c.shelf 9).0 is, rest)
nines_if c cs false is rest = rest

nines : (cs : List Cell) → AllByRecursion (λ c. c.shelf ≡ 9) (on 9 cs)
nines [] = tt
nines (c ∷ cs) = nines_if c (on 9 cs) (c.shelf == 9) refl (nines cs)

low_key : (k : List ℕ) (c : Cell) → c.shelf ≡ 9 → Below (9 ∷ k) (cell_key c) → Below k c.key
low_key k c is low = one_shelf 9 k c.key (subst (λ (s : ℕ). Below (9 ∷ k) (s ∷ c.key)) is low)

keys_above : (k : List ℕ) (cs : List Cell) → AllByRecursion (λ (c : Cell). c.shelf ≡ 9) cs → AllByRecursion (λ (c : Cell). Below (9 ∷ k) (cell_key c)) cs → AllByRecursion (λ (g : PageGroup). Below k g.0) (map (λ (c : Cell). (c.key, [], 0, false)) cs)
keys_above k [] all below = tt
keys_above k (c ∷ cs) all below = (low_key k c all.0 below.0, keys_above k cs all.1 below.1)

keys_order : (cs : List Cell) → AllByRecursion (λ c. c.shelf ≡ 9) cs → InOrder cell_key cs → InOrder (λ (g : PageGroup). g.0) (map (λ (c : Cell). (c.key, [], 0, false)) cs)
keys_order [] all order = tt
keys_order (c ∷ cs) all order =
    (keys_above c.key cs all.1 (first all.0 order.0), keys_order cs all.1 order.1)
  where
    first : c.shelf ≡ 9 → AllByRecursion (λ d. Below (cell_key c) (cell_key d)) cs → AllByRecursion (λ d. Below (9 ∷ c.key) (cell_key d)) cs
    first is low = subst (λ (s : ℕ). AllByRecursion (λ d. Below (s ∷ c.key) (cell_key d)) cs) is low

-- cells in order name groups in order
named_order : (cells : List Cell) → InOrder cell_key cells → InOrder (λ (g : PageGroup). g.0) (named_groups cells)
named_order cells order = keys_order (on 9 cells) (nines cells) (in_order-filter cell_key (λ (c : Cell). c.shelf == 9) cells order)

-- the page at a place which has nothing yet
abbrev bare : ℕ → Page
bare at = record { at = at; rows = []; clients = []; groups = [] }

pub begun : (limit : ℕ) (cells : List Cell) (cell : Cell) (read : PageRead) → limit < 2 ^ 32 → InOrder cell_key cells → 1 ≤ read.page.at → read.page.at ≤ limit → read.page ≡ bare read.page.at → read.tables.rows ≡ [] → cell ≡ page_cell read.page.at
    → (page_cells read.page ≡ cell ∷ []) × HasBegun limit cells read
begun limit cells cell read small order from within is tables made = (
  ap page_cells is ∙ written (bare read.page.at) from ∙ ap (λ (c : Cell). c ∷ []) (sym made),
  record {
    small = small;
    begins = subst (Begins limit cells) (sym is) (record {
      from = from;
      within = within;
      fits = record { rows = tt; clients = tt; groups = tt };
      groups = tt;
      sound = record { rows = tt; clients = tt; groups = named_order cells order; listed = tt; once = tt; others = tt; versions = tt; lasts = tt; homes = tt };
    });
    tables = tables ∙ sym (ap (λ (p : Page). p.rows) is);
  },
)

first_is : (limit : ℕ) (cells : List Cell) (cell : Cell) (page : Page) → Begins limit cells page → page_cells page ≡ cell ∷ [] → cell ≡ page_cell page.at
first_is limit cells cell page begins same = (cons_parts cell (page_cell page.at) [] (parts_of page) (sym same ∙ written page begins.from)).0

breaks_first : (limit : ℕ) (cells : List Cell) (cell : Cell) (fault : CellFault) (r : Result PageRead CellFault) → IsErrAnd r (λ d. d ≡ fault) → Blames cell fault → BreaksOff limit cells [] cell → BeginsWith limit cells cell r
breaks_first limit cells cell fault (Ok read) is at breaks = absurd is
breaks_first limit cells cell fault (Err (BadCell damage)) is at breaks = (subst (Blames cell) (sym is) at, breaks)
breaks_first limit cells cell fault (Err Memory) is at breaks = tt

pub first_unread : (limit : ℕ) (cells : List Cell) (cell : Cell) (fault : CellFault) (r : Result PageRead CellFault) → limit < 2 ^ 32 → IsErrAnd r (λ d. d ≡ fault) → ReadsCell page_cell PageFits cell (Err fault) → BeginsWith limit cells cell r
first_unread limit cells cell fault (Ok read) small is reads = absurd is
first_unread limit cells cell fault (Err (BadCell damage)) small is reads =
    let told : ReadsCell page_cell PageFits cell (Err (BadCell damage)) = subst (λ (f : CellFault). ReadsCell page_cell PageFits cell (Err f)) (sym is) reads in
    (told.0, λ page begins same. told.1 page.at (omega (arith, begins.within, small)) (first_is limit cells cell page begins same))
first_unread limit cells cell fault (Err Memory) small is reads = tt

pub first_outside : (limit : ℕ) (cells : List Cell) (cell : Cell) (at : ℕ) (b : Bool) (fault : CellFault) → limit < 2 ^ 32 → at < 2 ^ 32 → cell ≡ page_cell at → (IsTrue b ↔ ((1 ≤ at) × (at ≤ limit))) → b ≡ false → Blames cell fault → BeginsWith limit cells cell (Err fault)
first_outside limit cells cell at b fault small fits made decides fails blames = breaks_first limit cells cell fault (Err fault) refl blames (λ page begins same.
    let is : at ≡ page.at = place_same at page.at fits (omega (arith, begins.within, small)) (sym made ∙ first_is limit cells cell page begins same) in
    let holds : IsTrue b = decides.1 (omega (arith, begins.from, is), omega (arith, begins.within, is)) in
    let both : true ≡ false = sym holds ∙ fails in
    cc)

-- ---- One cell after another.

-- the first cell and so many of the others are those of a page that they begin
pub record ReadTo (limit : ℕ) (cells : List Cell) (rest : List Cell) (index : ℕ) (read : PageRead) : Type 0 where
  pub first : Cell
  pub all : cells ≡ first ∷ rest
  pub cells_are : page_cells read.page ≡ first ∷ take index rest
  pub has : HasBegun limit cells read

module _ (limit : ℕ) (cells : List Cell) (rest : List Cell) (index : ℕ) (cell : Cell) (read : PageRead) (order : InOrder cell_key cells) (below : index < length rest) (is : cell ≡ get_or rest index cell) (so_far : ReadTo limit cells rest index read) where
  -- the cells up to this one, and those behind it
  parted : cells ≡ page_cells read.page ++ cell ∷ drop (index + 1) rest
  parted =
      so_far.all ∙ ap (λ (cs : List Cell). so_far.first ∷ cs) (sym (take-append-drop index rest) ∙ ap (λ (cs : List Cell). take index rest ++ cs) (drop_more rest index cell below ∙ ap (λ (c : Cell). c ∷ drop (index + 1) rest) (sym is)))
      ∙ ap (λ (cs : List Cell). cs ++ cell ∷ drop (index + 1) rest) (sym so_far.cells_are)

  pub next_follows : Follows read.page cell
  next_follows =
      below-last cell_key (page_cells read.page) cell
      (in_order-left cell_key (page_cells read.page ++ cell ∷ []) (drop (index + 1) rest) (subst (InOrder cell_key) (parted ∙ sym (append_assoc (page_cells read.page) (cell ∷ []) (drop (index + 1) rest))) order))

  pub read_more : (new : PageRead) → (page_cells new.page ≡ page_cells read.page ++ cell ∷ []) × HasBegun limit cells new → ReadTo limit cells rest (index + 1) new
  read_more new taken = record {
    first = so_far.first;
    all = so_far.all;
    cells_are = taken.0 ∙ ap (λ (cs : List Cell). cs ++ cell ∷ []) so_far.cells_are ∙ ap (λ (cs : List Cell). so_far.first ∷ cs) (sym (take_more rest index cell below ∙ ap (λ (c : Cell). take index rest ++ c ∷ []) (sym is)));
    has = taken.1;
  }

  pub read_fails : (new : PageRead) (fault : CellFault) (r : Result (Option PageRead) CellFault) → IsErrAnd r (λ d. d ≡ fault) → TakesNext limit cells read.page cell (Err fault) new → ReadsPage limit cells r
  read_fails new fault (Ok o) fails breaks = absurd fails
  read_fails new fault (Err (BadCell damage)) fails breaks =
      let told : TakesNext limit cells read.page cell (Err (BadCell damage)) new = subst (λ (f : CellFault). TakesNext limit cells read.page cell (Err f) new) (sym fails) breaks in
      record {
        front = page_cells read.page;
        cell = cell;
        rest = drop (index + 1) rest;
        are = parted;
        begins = inr (read.page, refl, so_far.has.begins);
        breaks = told.1;
        at = told.0;
      }
  read_fails new fault (Err Memory) fails breaks = tt

pub first_fails : (limit : ℕ) (cells : List Cell) (first : Cell) (rest : List Cell) (fault : CellFault) (r : Result (Option PageRead) CellFault) → cells ≡ first ∷ rest → IsErrAnd r (λ d. d ≡ fault) → BeginsWith limit cells first (Err fault) → ReadsPage limit cells r
first_fails limit cells first rest fault (Ok o) are fails breaks = absurd fails
first_fails limit cells first rest fault (Err (BadCell damage)) are fails breaks =
    let told : BeginsWith limit cells first (Err (BadCell damage)) = subst (λ (f : CellFault). BeginsWith limit cells first (Err f)) (sym fails) breaks in
    record { front = []; cell = first; rest = rest; are = are; begins = inl refl; breaks = told.1; at = told.0 }
first_fails limit cells first rest fault (Err Memory) are fails breaks = tt

pub none_read : (limit : ℕ) (cells : List Cell) (first : Cell) (rest : List Cell) (read : PageRead) → cells ≡ first ∷ rest → (page_cells read.page ≡ first ∷ []) × HasBegun limit cells read → ReadTo limit cells rest 0 read
none_read limit cells first rest read are begins = record { first = first; all = are; cells_are = begins.0; has = begins.1 }

pub read_all : (limit : ℕ) (cells : List Cell) (rest : List Cell) (index : ℕ) (read : PageRead) → length rest ≤ index → ReadTo limit cells rest index read → IsKeptPage limit cells read.page × (read.tables.rows ≡ read.page.rows)
read_all limit cells rest index read all so_far =
    (kept_page limit cells read so_far.has (so_far.all ∙ ap (λ (cs : List Cell). so_far.first ∷ cs) (sym (take_all index rest all)) ∙ sym so_far.cells_are), so_far.has.tables)

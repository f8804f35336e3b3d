-- One cell of a page after another: what each adds to the page, and what breaks it off.
use Rattle.std.proofs.Common.{◌≡◌, ℕ, ◌^◌, ◌<◌, ◌≤◌, ◌==◌, ◌↔◌, Bool, true, false, cond, List, [], ◌∷◌, ◌++◌, map, Some, IsTrue, Result, Ok, Err, IsErrAnd, refl, sym, ap, ◌∙◌, subst, arith, append_assoc}
use Rattle.std.specs.Option.{is_some, IsSome}
use Rattle.std.specs.Str.{bytes_eq}
use Rattle.std.proofs.lemmas.Bool.Decides.{Decides-eqb}
use Rattle.std.proofs.lemmas.Map.Text.{is_eq-slice_cmp}
use Rattle.std.proofs.lemmas.Slice.Eq.{bytes_eq-Decides}
use Rattle.std.specs.declared.cmp.Ordering.{Ordering}
use Rattle.std.specs.declared.cmp.Ordering.TheVariants.{Less, Equal, Greater}
use Rattle.std.specs.Cmp.{nat_cmp_is}
use Rattle.std.specs.Cmp.Lexicographic.{slice_cmp}
use Rattle.std.specs.List.{AllByRecursion, filter}
use Rattle.std.specs.Ordering.{nat_cmp, ordering_then, is_eq}
use Rattle.rv_base.specs.Sorted.{find_by, Below}
use Rattle.rv_rows.specs.Held.{Stored, rows_in, stored_key, put}
use Rattle.rv_book.specs.declared.page.Page.{Page}
use Rattle.rv_book.specs.SoundPages.{IsSoundPage}
use Rattle.rv_history.specs.WholeRowLaws.{AreWhole}
use Rattle.rv_keeper.specs.declared.cell.Cell.{Cell}
use Rattle.rv_keeper.specs.Cells.{cell_key}
use Rattle.rv_record.specs.CellTexts.{page_cell, page_row_cell, page_client_cell, page_group_cell}
use Rattle.rv_record.specs.declared.fault.CellFault.{CellFault}
use Rattle.rv_record.specs.declared.fault.CellFault.TheVariants.{BadCell, Memory}
use Rattle.rv_record.specs.CellReading.{Blames, ClientFits, GroupFits, PageFits, ReadsCell}
use Rattle.rv_record.specs.RowReading.{RowFits}
use Rattle.rv_record.specs.declared.page_read.PageRead.{PageRead}
use Rattle.rv_record.specs.PageCells.{PageClient, PageGroup, client_parts, group_parts, page_cells, parts_of, row_parts}
use Rattle.rv_record.specs.Begins.{Begins, BreaksOff, named_groups, with_groups}
use Rattle.rv_record.specs.PageReads.{ClientFollows, Follows, HasBegun, RowFollows, TakesNext}
use Rattle.rv_record.specs.ListLaws.{all-last, all-left, all-push, all-right, in_order-push, put-end}
use Rattle.rv_record.specs.PartLaws.{written, row_same, client_same, row_next, client_next, group_next, no_other, same_place}
use Rattle.rv_record.proofs.Rows.{absent, rows_push, whole_last, whole_more}

-- ---- Places on shelves.

by_shelf : (s t : ℕ) (a b : List ℕ) (o : Ordering) → o ≡ nat_cmp s t → slice_cmp nat_cmp (s ∷ a) (t ∷ b) ≡ ordering_then o (slice_cmp nat_cmp a b)
by_shelf s t a b o is = ap (λ (p : Ordering). ordering_then p (slice_cmp nat_cmp a b)) (sym is)

pub one_shelf : (s : ℕ) (a b : List ℕ) → Below (s ∷ a) (s ∷ b) → Below a b
one_shelf s a b below = sym (by_shelf s s a b Equal (nat_cmp_is s s Equal refl)) ∙ below

not_higher : (s t : ℕ) (a b : List ℕ) → t < s → Below (s ∷ a) (t ∷ b) → ⊥
not_higher s t a b high below = let both : Greater ≡ Less = sym (by_shelf s t a b Greater (nat_cmp_is s t Greater high)) ∙ below in cc

all_map : {X : Type 0} (f : X → Cell) (P : Cell → Type 0) (Q : X → Type 0) (xs : List X) → ((x : X) → P (f x) → Q x) → AllByRecursion P (map f xs) → AllByRecursion Q xs
all_map f P Q [] each all = tt
all_map f P Q (x ∷ xs) each all = (each x all.0, all_map f P Q xs each all.1)

none_of : {X : Type 0} (xs : List X) → AllByRecursion (λ x. ⊥) xs → xs ≡ []
none_of [] all = refl
none_of (x ∷ xs) all = absurd all.0

map_push : {X : Type 0} (f : X → Cell) (xs : List X) (x : X) → map f (xs ++ x ∷ []) ≡ map f xs ++ f x ∷ []
map_push f [] x = refl
map_push f (y ∷ xs) x = ap (λ (cells : List Cell). f y ∷ cells) (map_push f xs x)

-- ---- Which cells stand before the next.

module _ (page : Page) (cell : Cell) (from : 1 ≤ page.at) (follows : Follows page cell) where
  behind : AllByRecursion (λ before. Below (cell_key before) (cell_key cell)) (page_cell page.at ∷ parts_of page)
  behind = subst (λ (cells : List Cell). AllByRecursion (λ before. Below (cell_key before) (cell_key cell)) cells) (written page from) follows

  parts_behind : AllByRecursion (λ before. Below (cell_key before) (cell_key cell)) (client_parts page.clients ++ group_parts page.groups)
  parts_behind = all-right _ (row_parts page.rows) (client_parts page.clients ++ group_parts page.groups) behind.1

  rows_behind : cell.shelf ≡ 7 → AllByRecursion (λ s. Below (stored_key s) cell.key) page.rows
  rows_behind is =
      all_map (λ (s : Stored). page_row_cell s.0 s.1) (λ before. Below (cell_key before) (cell_key cell)) (λ s. Below (stored_key s) cell.key) page.rows
      (λ s below. one_shelf 7 (stored_key s) cell.key (subst (λ (t : ℕ). Below (7 ∷ stored_key s) (t ∷ cell.key)) is below))
      (all-left _ (row_parts page.rows) (client_parts page.clients ++ group_parts page.groups) behind.1)

  clients_behind : cell.shelf ≡ 8 → AllByRecursion (λ c. Below c.0 cell.key) page.clients
  clients_behind is =
      all_map (λ (c : PageClient). page_client_cell c.0 c.1 c.2) (λ before. Below (cell_key before) (cell_key cell)) (λ c. Below c.0 cell.key) page.clients
      (λ c below. one_shelf 8 c.0 cell.key (subst (λ (t : ℕ). Below (8 ∷ c.0) (t ∷ cell.key)) is below))
      (all-left _ (client_parts page.clients) (group_parts page.groups) parts_behind)

  groups_behind : cell.shelf ≡ 9 → AllByRecursion (λ g. Below g.0 cell.key) page.groups
  groups_behind is =
      all_map (λ (g : PageGroup). page_group_cell g.0 g.1 g.2 g.3) (λ before. Below (cell_key before) (cell_key cell)) (λ g. Below g.0 cell.key) page.groups
      (λ g below. one_shelf 9 g.0 cell.key (subst (λ (t : ℕ). Below (9 ∷ g.0) (t ∷ cell.key)) is below))
      (all-right _ (client_parts page.clients) (group_parts page.groups) parts_behind)

  no_clients : cell.shelf < 8 → page.clients ≡ []
  no_clients low =
      none_of page.clients (all_map (λ (c : PageClient). page_client_cell c.0 c.1 c.2) (λ before. Below (cell_key before) (cell_key cell)) (λ c. ⊥) page.clients
      (λ c below. not_higher 8 cell.shelf c.0 cell.key low below) (all-left _ (client_parts page.clients) (group_parts page.groups) parts_behind))

  no_groups : cell.shelf < 9 → page.groups ≡ []
  no_groups low =
      none_of page.groups (all_map (λ (g : PageGroup). page_group_cell g.0 g.1 g.2 g.3) (λ before. Below (cell_key before) (cell_key cell)) (λ g. ⊥) page.groups
      (λ g below. not_higher 9 cell.shelf g.0 cell.key low below) (all-right _ (client_parts page.clients) (group_parts page.groups) parts_behind))

-- ---- What is answered of a cell that breaks the page off.

module _ (limit : ℕ) (cells : List Cell) (old : Page) (cell : Cell) (new : PageRead) where
  pub breaks_off : (fault : CellFault) (r : Result (Unit {0}) CellFault) → IsErrAnd r (λ d. d ≡ fault) → Blames cell fault → BreaksOff limit cells (page_cells old) cell → TakesNext limit cells old cell r new
  breaks_off fault (Ok done) is at breaks = absurd is
  breaks_off fault (Err (BadCell damage)) is at breaks = (subst (Blames cell) (sym is) at, breaks)
  breaks_off fault (Err Memory) is at breaks = tt

  pub ends_with : (fault : CellFault) → Blames cell fault → BreaksOff limit cells (page_cells old) cell → TakesNext limit cells old cell (Err fault) new
  ends_with fault at breaks = breaks_off fault (Err fault) refl at breaks

  unread : {A : Type 0} (cell_of : A → Cell) (Fits : A → Type 0) (fault : CellFault) (r : Result (Unit {0}) CellFault) → IsErrAnd r (λ d. d ≡ fault) → ReadsCell cell_of Fits cell (Err fault)
      → (((a : A) → Fits a → ¬ (cell ≡ cell_of a)) → BreaksOff limit cells (page_cells old) cell) → TakesNext limit cells old cell r new
  unread cell_of Fits fault (Ok done) is reads breaks = absurd is
  unread cell_of Fits fault (Err (BadCell damage)) is reads breaks =
      let told : ReadsCell cell_of Fits cell (Err (BadCell damage)) = subst (λ (f : CellFault). ReadsCell cell_of Fits cell (Err f)) (sym is) reads in
      (told.0, breaks told.1)
  unread cell_of Fits fault (Err Memory) is reads breaks = tt

  small : (page : Page) → limit < 2 ^ 32 → Begins limit cells page → PageFits page.at
  small page low begins = omega (arith, begins.within, low)

  module _ (read : PageRead) (is_old : read.page ≡ old) (has : HasBegun limit cells read) where
    begun : Begins limit cells old
    begun = subst (Begins limit cells) is_old has.begins

    pub row_unread : (fault : CellFault) (r : Result (Unit {0}) CellFault) → cell.shelf ≡ 7 → IsErrAnd r (λ d. d ≡ fault) → ReadsCell (λ s. page_row_cell s.0 s.1) RowFits cell (Err fault) → TakesNext limit cells old cell r new
    row_unread fault r shelf is reads = unread (λ s. page_row_cell s.0 s.1) RowFits fault r is reads (λ none. λ more longer same.
        let next = row_next old more cell begun.from longer.from begun.fits longer.fits same shelf in none next.0 next.1 next.3)

    pub client_unread : (fault : CellFault) (r : Result (Unit {0}) CellFault) → cell.shelf ≡ 8 → IsErrAnd r (λ d. d ≡ fault) → ReadsCell (λ c. page_client_cell c.0 c.1 c.2) ClientFits cell (Err fault) → TakesNext limit cells old cell r new
    client_unread fault r shelf is reads = unread (λ c. page_client_cell c.0 c.1 c.2) ClientFits fault r is reads (λ none. λ more longer same.
        let next = client_next old more cell begun.from longer.from begun.fits longer.fits same shelf in none next.0 next.1 next.3)

    pub group_unread : (fault : CellFault) (r : Result (Unit {0}) CellFault) → cell.shelf ≡ 9 → IsErrAnd r (λ d. d ≡ fault) → ReadsCell (λ g. page_group_cell g.0 g.1 g.2 g.3) GroupFits cell (Err fault) → TakesNext limit cells old cell r new
    group_unread fault r shelf is reads = unread (λ g. page_group_cell g.0 g.1 g.2 g.3) GroupFits fault r is reads (λ none. λ more longer same.
        let next = group_next old more cell begun.from longer.from begun.fits longer.fits same shelf in none next.0 next.1 next.3)

    pub no_part : ¬ (cell.shelf ≡ 7) → ¬ (cell.shelf ≡ 8) → ¬ (cell.shelf ≡ 9) → BreaksOff limit cells (page_cells old) cell
    no_part row client group = λ more longer same.
        no_other old more cell begun.from longer.from begun.fits longer.fits same (small old has.small begun) (small more has.small longer) row client group

-- ---- One more row.

whole_rows : (page : Page) → IsSoundPage page → AreWhole (rows_in page.rows)
whole_rows page sound = record { listed = sound.listed; once = sound.once; others = sound.others }

abbrev pub with_row : Page → Stored → Page
with_row page s = record { at = page.at; rows = page.rows ++ s ∷ []; clients = page.clients; groups = page.groups }

sound_row : (page : Page) (s : Stored) → IsSoundPage page → AllByRecursion (λ t. Below (stored_key t) (stored_key s)) page.rows → RowFollows page.at (rows_in page.rows) s.0 s.1 → IsSoundPage (with_row page s)
sound_row page s sound below follows =
    let whole : AreWhole (rows_in (page.rows ++ s ∷ [])) = subst AreWhole (sym (rows_push page.rows s)) (whole_more (rows_in page.rows) (whole_rows page sound) s.0 (absent page.rows s below) follows.2) in
    record {
      rows = in_order-push stored_key page.rows s sound.rows below;
      clients = sound.clients;
      groups = sound.groups;
      listed = whole.listed;
      once = whole.once;
      others = whole.others;
      versions = all-push (λ t. (1 ≤ t.1) × (t.1 ≤ page.at)) page.rows s sound.versions (follows.0, follows.1);
      lasts = sound.lasts;
      homes = sound.homes;
    }

last_row : (page more : Page) (s : Stored) → more.rows ≡ page.rows ++ s ∷ [] → more.at ≡ page.at → IsSoundPage more → RowFollows page.at (rows_in page.rows) s.0 s.1
last_row page more s rows at sound =
    let versions = all-last (λ t. (1 ≤ t.1) × (t.1 ≤ more.at)) page.rows s (subst (λ (ts : List Stored). AllByRecursion (λ t. (1 ≤ t.1) × (t.1 ≤ more.at)) ts) rows sound.versions) in
    (versions.0, omega (arith, versions.1, at), whole_last (rows_in page.rows) s.0 (subst AreWhole (ap rows_in rows ∙ rows_push page.rows s) (whole_rows more sound)))

row_cells-push : (page : Page) (s : Stored) → 1 ≤ page.at → page.clients ≡ [] → page.groups ≡ [] → page_cells (with_row page s) ≡ page_cells page ++ page_row_cell s.0 s.1 ∷ []
row_cells-push page s from clients groups =
    written (with_row page s) from
    ∙ (λ i. page_cell page.at ∷ (map_push (λ (t : Stored). page_row_cell t.0 t.1) page.rows s i ++ (client_parts (clients i) ++ group_parts (groups i))))
    ∙ ap (λ (cells : List Cell). page_cell page.at ∷ cells) (nothing (row_parts page.rows) (page_row_cell s.0 s.1))
    ∙ sym (ap (λ (cells : List Cell). cells ++ page_row_cell s.0 s.1 ∷ []) (written page from ∙ (λ i. page_cell page.at ∷ (row_parts page.rows ++ (client_parts (clients i) ++ group_parts (groups i))))))
  where
    nothing : (xs : List Cell) (x : Cell) → (xs ++ x ∷ []) ++ ([] ++ []) ≡ (xs ++ ([] ++ [])) ++ x ∷ []
    nothing [] x = refl
    nothing (y ∷ xs) x = ap (λ (cells : List Cell). y ∷ cells) (nothing xs x)

-- a page with a cell more is at the same place
place_of : (limit : ℕ) (cells : List Cell) (old : PageRead) (cell : Cell) → HasBegun limit cells old → (more : Page) → Begins limit cells more → page_cells more ≡ page_cells old.page ++ cell ∷ [] → more.at ≡ old.page.at
place_of limit cells old cell has more longer same =
    same_place old.page more cell has.begins.from longer.from has.begins.fits longer.fits same (omega (arith, has.begins.within, has.small)) (omega (arith, longer.within, has.small))

module _ (limit : ℕ) (cells : List Cell) (old : PageRead) (cell : Cell) (has : HasBegun limit cells old) (follows : Follows old.page cell) (s : Stored) (fits : RowFits s) (shelf : cell.shelf ≡ 7) (is : cell ≡ page_row_cell s.0 s.1) where
  below_rows : AllByRecursion (λ t. Below (stored_key t) (stored_key s)) old.page.rows
  below_rows = subst (λ (k : List ℕ). AllByRecursion (λ t. Below (stored_key t) k) old.page.rows) (ap (λ (c : Cell). c.key) is) (rows_behind old.page cell has.begins.from follows shelf)

  pub row_taken : (new : PageRead) → RowFollows old.page.at (rows_in old.page.rows) s.0 s.1 → new.page ≡ with_row old.page s → new.tables.rows ≡ put s old.tables.rows → (page_cells new.page ≡ page_cells old.page ++ cell ∷ []) × HasBegun limit cells new
  row_taken new stands page_is tables_are = (
    ap page_cells page_is ∙ row_cells-push old.page s has.begins.from (no_clients old.page cell has.begins.from follows (omega (arith, shelf))) (no_groups old.page cell has.begins.from follows (omega (arith, shelf)))
        ∙ ap (λ (c : Cell). page_cells old.page ++ c ∷ []) (sym is),
    record {
      small = has.small;
      begins = subst (Begins limit cells) (sym page_is) (record {
        from = has.begins.from;
        within = has.begins.within;
        fits = record { rows = all-push RowFits old.page.rows s has.begins.fits.rows fits; clients = has.begins.fits.clients; groups = has.begins.fits.groups };
        groups = has.begins.groups;
        sound = sound_row (with_groups (named_groups cells) old.page) s has.begins.sound below_rows stands;
      });
      tables = tables_are ∙ ap (put s) has.tables ∙ put-end stored_key s old.page.rows below_rows ∙ sym (ap (λ (p : Page). p.rows) page_is);
    },
  )

  pub row_breaks : (b : Bool) → (IsTrue b ↔ RowFollows old.page.at (rows_in old.tables.rows) s.0 s.1) → b ≡ false → BreaksOff limit cells (page_cells old.page) cell
  row_breaks b decides fails = λ more longer same.
      let next = row_next old.page more cell has.begins.from longer.from has.begins.fits longer.fits same shelf in
      let same_row : next.0 ≡ s = row_same next.0 s next.1 fits (sym next.3 ∙ is) in
      let stood = last_row old.page (with_groups (named_groups cells) more) s (next.2 ∙ ap (λ (t : Stored). old.page.rows ++ t ∷ []) same_row) (place_of limit cells old cell has more longer same) longer.sound in
      let holds : IsTrue b = decides.1 (subst (λ (rows : List Stored). RowFollows old.page.at (rows_in rows) s.0 s.1) (sym has.tables) stood) in
      let both : true ≡ false = sym holds ∙ fails in
      cc

-- ---- One more client.

-- a group is named where a cell of shelf 9 has its key
own_shelf : (s : ℕ) (a b : List ℕ) → bytes_eq (s ∷ a) (s ∷ b) ≡ bytes_eq a b
own_shelf s a b = sym (is_eq-slice_cmp (s ∷ a) (s ∷ b)) ∙ ap is_eq (by_shelf s s a b Equal (nat_cmp_is s s Equal refl)) ∙ is_eq-slice_cmp a b

pub named : (k : List ℕ) (cells : List Cell) → is_some (find_by (λ (g : PageGroup). g.0) k (named_groups cells)) ≡ is_some (find_by cell_key (9 ∷ k) cells)
named k [] = refl
named k (cell ∷ cells) = by (cell.shelf == 9) refl (named k cells)
  where
    apart : ¬ (cell.shelf ≡ 9) → (b : Bool) → bytes_eq (9 ∷ k) (cell_key cell) ≡ b → b ≡ false
    apart other true same = absurd (other (ap (λ (xs : List ℕ). first xs) (sym ((bytes_eq-Decides (9 ∷ k) (cell_key cell)).0 same))))
      where
        first : List ℕ → ℕ
        first [] = 0
        first (x ∷ xs) = x
    apart other false same = refl

    by : (b : Bool) → (cell.shelf == 9) ≡ b → is_some (find_by (λ (g : PageGroup). g.0) k (named_groups cells)) ≡ is_some (find_by cell_key (9 ∷ k) cells)
        → is_some (find_by (λ (g : PageGroup). g.0) k (map (λ (c : Cell). (c.key, [], 0, false)) (cond b (cell ∷ filter (λ c. c.shelf == 9) cells) (filter (λ c. c.shelf == 9) cells)))) ≡ is_some (cond (bytes_eq (9 ∷ k) (cell_key cell)) (Some cell) (find_by cell_key (9 ∷ k) cells))
    by true is rest =
        let shelf : cell.shelf ≡ 9 = (Decides-eqb cell.shelf 9).0 is in
        let keys : bytes_eq (9 ∷ k) (cell_key cell) ≡ bytes_eq k cell.key = ap (λ (s : ℕ). bytes_eq (9 ∷ k) (s ∷ cell.key)) shelf ∙ own_shelf 9 k cell.key in
        (elim (bytes_eq k cell.key) as (λ c. is_some (cond c (Some (cell.key, [], 0, false)) (find_by (λ (g : PageGroup). g.0) k (named_groups cells))) ≡ is_some (cond c (Some cell) (find_by cell_key (9 ∷ k) cells))) [ true ↦ refl | false ↦ rest ])
        ∙ ap (λ (c : Bool). is_some (cond c (Some cell) (find_by cell_key (9 ∷ k) cells))) (sym keys)
    by false is rest =
        let other : ¬ (cell.shelf ≡ 9) = (λ same. let both : true ≡ false = sym ((Decides-eqb cell.shelf 9).1 same) ∙ is in cc) in
        rest ∙ ap (λ (c : Bool). is_some (cond c (Some cell) (find_by cell_key (9 ∷ k) cells))) (sym (apart other (bytes_eq (9 ∷ k) (cell_key cell)) refl))

abbrev pub with_client : Page → PageClient → Page
with_client page c = record { at = page.at; rows = page.rows; clients = page.clients ++ c ∷ []; groups = page.groups }

client_cells-push : (page : Page) (c : PageClient) → 1 ≤ page.at → page.groups ≡ [] → page_cells (with_client page c) ≡ page_cells page ++ page_client_cell c.0 c.1 c.2 ∷ []
client_cells-push page c from groups =
    written (with_client page c) from
    ∙ (λ i. page_cell page.at ∷ (row_parts page.rows ++ (map_push (λ (d : PageClient). page_client_cell d.0 d.1 d.2) page.clients c i ++ group_parts (groups i))))
    ∙ ap (λ (cells : List Cell). page_cell page.at ∷ cells) (nothing (row_parts page.rows) (client_parts page.clients) (page_client_cell c.0 c.1 c.2))
    ∙ sym (ap (λ (cells : List Cell). cells ++ page_client_cell c.0 c.1 c.2 ∷ []) (written page from ∙ (λ i. page_cell page.at ∷ (row_parts page.rows ++ (client_parts page.clients ++ group_parts (groups i))))))
  where
    behind_none : (ys : List Cell) (x : Cell) → (ys ++ x ∷ []) ++ [] ≡ (ys ++ []) ++ x ∷ []
    behind_none [] x = refl
    behind_none (y ∷ ys) x = ap (λ (cells : List Cell). y ∷ cells) (behind_none ys x)

    nothing : (xs ys : List Cell) (x : Cell) → xs ++ ((ys ++ x ∷ []) ++ []) ≡ (xs ++ (ys ++ [])) ++ x ∷ []
    nothing [] ys x = behind_none ys x
    nothing (y ∷ xs) ys x = ap (λ (cells : List Cell). y ∷ cells) (nothing xs ys x)

module _ (limit : ℕ) (cells : List Cell) (old : PageRead) (cell : Cell) (has : HasBegun limit cells old) (follows : Follows old.page cell) (c : PageClient) (fits : ClientFits c) (shelf : cell.shelf ≡ 8) (is : cell ≡ page_client_cell c.0 c.1 c.2) where
  below_clients : AllByRecursion (λ d. Below d.0 c.0) old.page.clients
  below_clients = subst (λ (k : List ℕ). AllByRecursion (λ d. Below d.0 k) old.page.clients) (ap (λ (x : Cell). x.key) is) (clients_behind old.page cell has.begins.from follows shelf)

  pub client_taken : (new : PageRead) → ClientFollows old.page.at cells c.1 c.2 → new.page ≡ with_client old.page c → new.tables.rows ≡ old.tables.rows → (page_cells new.page ≡ page_cells old.page ++ cell ∷ []) × HasBegun limit cells new
  client_taken new stands page_is tables_are = (
    ap page_cells page_is ∙ client_cells-push old.page c has.begins.from (no_groups old.page cell has.begins.from follows (omega (arith, shelf))) ∙ ap (λ (x : Cell). page_cells old.page ++ x ∷ []) (sym is),
    record {
      small = has.small;
      begins = subst (Begins limit cells) (sym page_is) (record {
        from = has.begins.from;
        within = has.begins.within;
        fits = record { rows = has.begins.fits.rows; clients = all-push ClientFits old.page.clients c has.begins.fits.clients fits; groups = has.begins.fits.groups };
        groups = has.begins.groups;
        sound = record {
          rows = has.begins.sound.rows;
          clients = in_order-push (λ (d : PageClient). d.0) old.page.clients c has.begins.sound.clients below_clients;
          groups = has.begins.sound.groups;
          listed = has.begins.sound.listed;
          once = has.begins.sound.once;
          others = has.begins.sound.others;
          versions = has.begins.sound.versions;
          lasts = all-push (λ d. (1 ≤ d.2) × (d.2 ≤ old.page.at)) old.page.clients c has.begins.sound.lasts (stands.0, stands.1);
          homes = all-push (λ d. IsSome (find_by (λ (g : PageGroup). g.0) d.1 (named_groups cells))) old.page.clients c has.begins.sound.homes (named c.1 cells ∙ stands.2);
        };
      });
      tables = tables_are ∙ has.tables ∙ sym (ap (λ (p : Page). p.rows) page_is);
    },
  )

  pub client_breaks : (b : Bool) → (IsTrue b ↔ ClientFollows old.page.at cells c.1 c.2) → b ≡ false → BreaksOff limit cells (page_cells old.page) cell
  client_breaks b decides fails = λ more longer same.
      let next = client_next old.page more cell has.begins.from longer.from has.begins.fits longer.fits same shelf in
      let one : next.0 ≡ c = client_same next.0 c next.1 fits (sym next.3 ∙ is) in
      let clients : more.clients ≡ old.page.clients ++ c ∷ [] = next.2 ∙ ap (λ (d : PageClient). old.page.clients ++ d ∷ []) one in
      let last = all-last (λ d. (1 ≤ d.2) × (d.2 ≤ more.at)) old.page.clients c (subst (λ (ds : List PageClient). AllByRecursion (λ d. (1 ≤ d.2) × (d.2 ≤ more.at)) ds) clients longer.sound.lasts) in
      let home = all-last (λ d. IsSome (find_by (λ (g : PageGroup). g.0) d.1 (named_groups cells))) old.page.clients c (subst (λ (ds : List PageClient). AllByRecursion (λ d. IsSome (find_by (λ (g : PageGroup). g.0) d.1 (named_groups cells))) ds) clients longer.sound.homes) in
      let holds : IsTrue b = decides.1 (last.0, omega (arith, last.1, place_of limit cells old cell has more longer same), sym (named c.1 cells) ∙ home) in
      let both : true ≡ false = sym holds ∙ fails in
      cc

-- ---- One more group.

abbrev pub with_group : Page → PageGroup → Page
with_group page g = record { at = page.at; rows = page.rows; clients = page.clients; groups = page.groups ++ g ∷ [] }

group_cells-push : (page : Page) (g : PageGroup) → 1 ≤ page.at → page_cells (with_group page g) ≡ page_cells page ++ page_group_cell g.0 g.1 g.2 g.3 ∷ []
group_cells-push page g from =
    written (with_group page g) from
    ∙ ap (λ (cells : List Cell). page_cell page.at ∷ (row_parts page.rows ++ (client_parts page.clients ++ cells))) (map_push (λ (h : PageGroup). page_group_cell h.0 h.1 h.2 h.3) page.groups g)
    ∙ ap (λ (cells : List Cell). page_cell page.at ∷ cells) (further (row_parts page.rows) (client_parts page.clients) (group_parts page.groups) (page_group_cell g.0 g.1 g.2 g.3))
    ∙ sym (ap (λ (cells : List Cell). cells ++ page_group_cell g.0 g.1 g.2 g.3 ∷ []) (written page from))
  where
    further : (xs ys zs : List Cell) (x : Cell) → xs ++ (ys ++ (zs ++ x ∷ [])) ≡ (xs ++ (ys ++ zs)) ++ x ∷ []
    further xs ys zs x = ap (λ (cells : List Cell). xs ++ cells) (sym (append_assoc ys zs (x ∷ []))) ∙ sym (append_assoc xs (ys ++ zs) (x ∷ []))

module _ (limit : ℕ) (cells : List Cell) (old : PageRead) (cell : Cell) (has : HasBegun limit cells old) (follows : Follows old.page cell) (g : PageGroup) (fits : GroupFits g) (shelf : cell.shelf ≡ 9) (is : cell ≡ page_group_cell g.0 g.1 g.2 g.3) where
  below_groups : AllByRecursion (λ h. Below h.0 g.0) old.page.groups
  below_groups = subst (λ (k : List ℕ). AllByRecursion (λ h. Below h.0 k) old.page.groups) (ap (λ (x : Cell). x.key) is) (groups_behind old.page cell has.begins.from follows shelf)

  pub group_taken : (new : PageRead) → new.page ≡ with_group old.page g → new.tables.rows ≡ old.tables.rows → (page_cells new.page ≡ page_cells old.page ++ cell ∷ []) × HasBegun limit cells new
  group_taken new page_is tables_are = (
    ap page_cells page_is ∙ group_cells-push old.page g has.begins.from ∙ ap (λ (x : Cell). page_cells old.page ++ x ∷ []) (sym is),
    record {
      small = has.small;
      begins = subst (Begins limit cells) (sym page_is) (record {
        from = has.begins.from;
        within = has.begins.within;
        fits = record { rows = has.begins.fits.rows; clients = has.begins.fits.clients; groups = all-push GroupFits old.page.groups g has.begins.fits.groups fits };
        groups = in_order-push (λ (h : PageGroup). h.0) old.page.groups g has.begins.groups below_groups;
        sound = has.begins.sound;
      });
      tables = tables_are ∙ has.tables ∙ sym (ap (λ (p : Page). p.rows) page_is);
    },
  )

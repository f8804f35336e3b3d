-- Laws of the cells of a page: they tell one page, they stand in order on shelves of their own, and those of a kept page are broken off nowhere.
use Rattle.std.proofs.Common.{◌≡◌, ℕ, suc, ◌-◌, ◌^◌, ◌<◌, ◌≤◌, ◌==◌, ◌||◌, Bool, true, false, cond, List, [], ◌∷◌, ◌++◌, length, take, drop, map, Option, Some, None, refl, sym, ap, ◌∙◌, subst, arith}
use Rattle.std.specs.declared.cmp.Ordering.TheVariants.{Less, Greater}
use Rattle.std.specs.List.{list_any, AllByRecursion}
use Rattle.std.specs.Option.{is_some, option_map_or, IsSome}
use Rattle.std.specs.Str.{bytes_eq}
use Rattle.std.proofs.Math.Bool.{or-false}
use Rattle.std.proofs.lemmas.List.{take-append-drop, take-map}
use Rattle.std.proofs.lemmas.List.Folds.{list_any-append}
use Rattle.std.proofs.lemmas.Slice.Eq.{bytes_eq-Decides}
use Rattle.rv_base.specs.Sorted.{find_by, InOrder, Below}
use Rattle.rv_base.specs.PositionLaws.{differs, equals}
use Rattle.rv_rows.specs.declared.row.Row.{Row}
use Rattle.rv_rows.specs.declared.row.Row.TheVariants as variants
use Rattle.rv_rows.specs.Keys.{row_text}
use Rattle.rv_rows.specs.Held.{Stored, rows_in, stored_key}
use Rattle.rv_rows.specs.Sharing.{is_list, list_of, list_passes, owns}
use Rattle.rv_book.specs.declared.page.Page.{Page}
use Rattle.rv_book.specs.Book.{no_page}
use Rattle.rv_book.specs.SoundPages.{has_its_list, shared_with_owner, share_alike, AreSharedOnce, IsSoundPage}
use Rattle.rv_history.specs.WholeRowLaws.{AreWhole, names_none}
use Rattle.rv_keeper.specs.declared.cell.Cell.{Cell}
use Rattle.rv_keeper.specs.Cells.{cell_key}
use Rattle.rv_record.specs.CellTexts.{page_cell, page_row_cell, page_client_cell, page_group_cell}
use Rattle.rv_record.specs.declared.fault.Damage.{Damage}
use Rattle.rv_record.specs.CellReading.{ClientFits, GroupFits, PageFits}
use Rattle.rv_record.specs.RowReading.{RowFits}
use Rattle.rv_record.specs.PageCells.{PageClient, PageGroup, PartsFit, client_parts, group_parts, page_cells, parts_of, row_parts}
use Rattle.rv_record.specs.Begins.{Begins, BreaksPage, named_groups}
use Rattle.rv_record.specs.PageReads.{IsKeptPage}
use Rattle.rv_record.specs.ListLaws.{all-append, all-left, all-map, all-take, all-weaker, cons_parts, in_order-append, in_order-below, in_order-images, in_order-take, take-images, take-to}
use Rattle.rv_record.specs.PartLaws.{cells-7, cells-8, cells-9, client_same, each_same, group_same, on, place_same, row_same, written}

-- ---- Cells tell one page.

pub page_cells-injective : (a b : Page) → PageFits a.at → PageFits b.at → PartsFit a → PartsFit b → page_cells a ≡ page_cells b → 1 ≤ a.at → 1 ≤ b.at → a ≡ b
page_cells-injective a b small also_small fits also same from also_from =
    let at = place_same a.at b.at small also_small (cons_parts (page_cell a.at) (page_cell b.at) (parts_of a) (parts_of b) (sym (written a from) ∙ same ∙ written b also_from)).0 in
    let rows = each_same (λ (s : Stored). page_row_cell s.0 s.1) RowFits row_same a.rows b.rows fits.rows also.rows (sym (cells-7 a from) ∙ ap (on 7) same ∙ cells-7 b also_from) in
    let clients = each_same (λ (c : PageClient). page_client_cell c.0 c.1 c.2) ClientFits client_same a.clients b.clients fits.clients also.clients (sym (cells-8 a from) ∙ ap (on 8) same ∙ cells-8 b also_from) in
    let groups = each_same (λ (g : PageGroup). page_group_cell g.0 g.1 g.2 g.3) GroupFits group_same a.groups b.groups fits.groups also.groups (sym (cells-9 a from) ∙ ap (on 9) same ∙ cells-9 b also_from) in
    (λ i. record { at = at i; rows = rows i; clients = clients i; groups = groups i })

pub kept_one : (limit other : ℕ) (cells : List Cell) (a b : Page) → limit < 2 ^ 32 → other < 2 ^ 32 → IsKeptPage limit cells a → IsKeptPage other cells b → a ≡ b
kept_one limit other cells a b small also_small kept also =
    page_cells-injective a b (omega (arith, kept.within, small)) (omega (arith, also.within, also_small)) kept.fits also.fits (sym kept.are ∙ also.are) kept.from also.from

-- ---- Where the cells of a page stand.

pub page_cells-none : page_cells no_page ≡ []
page_cells-none = refl

-- the cell stands on a shelf of the page
abbrev On : Cell → Type 0
On cell = (5 < cell.shelf) × (cell.shelf < 10)

pub page_cells-on : (page : Page) → AllByRecursion (λ cell. (5 < cell.shelf) × (cell.shelf < 10)) (page_cells page)
page_cells-on page =
    elim (page.at == 0) as (λ b. AllByRecursion On (cond b [] (page_cell page.at ∷ parts_of page))) [
      | true ↦ tt
      | false ↦ (
        (omega arith, omega arith),
        all-append On (row_parts page.rows) (client_parts page.clients ++ group_parts page.groups) (all-map On (λ (s : Stored). page_row_cell s.0 s.1) page.rows (λ s. (omega arith, omega arith)))
            (all-append On (client_parts page.clients) (group_parts page.groups) (all-map On (λ (c : PageClient). page_client_cell c.0 c.1 c.2) page.clients (λ c. (omega arith, omega arith)))
            (all-map On (λ (g : PageGroup). page_group_cell g.0 g.1 g.2 g.3) page.groups (λ g. (omega arith, omega arith)))),
      )
    ]

-- the cells of a page in order, which stand behind that of its place
module _ (page : Page) (sound : IsSoundPage page) where
  -- a cell below all clients and groups, and one below all rows too
  below_named : (key : List ℕ) → ((c : PageClient) → Below key (8 ∷ c.0)) → ((g : PageGroup) → Below key (9 ∷ g.0)) → AllByRecursion (λ cell. Below key (cell_key cell)) (client_parts page.clients ++ group_parts page.groups)
  below_named key clients groups =
      all-append (λ cell. Below key (cell_key cell)) (client_parts page.clients) (group_parts page.groups)
      (all-map (λ cell. Below key (cell_key cell)) (λ (c : PageClient). page_client_cell c.0 c.1 c.2) page.clients clients)
      (all-map (λ cell. Below key (cell_key cell)) (λ (g : PageGroup). page_group_cell g.0 g.1 g.2 g.3) page.groups groups)

  named_in_order : InOrder cell_key (client_parts page.clients ++ group_parts page.groups)
  named_in_order =
      in_order-append cell_key (client_parts page.clients) (group_parts page.groups)
      (in_order-images (λ (c : PageClient). c.0) cell_key (λ (c : PageClient). page_client_cell c.0 c.1 c.2) (λ a b below. below) page.clients sound.clients)
      (in_order-images (λ (g : PageGroup). g.0) cell_key (λ (g : PageGroup). page_group_cell g.0 g.1 g.2 g.3) (λ a b below. below) page.groups sound.groups)
      (all-map (λ (a : Cell). AllByRecursion (λ b. Below (cell_key a) (cell_key b)) (group_parts page.groups)) (λ (c : PageClient). page_client_cell c.0 c.1 c.2) page.clients
      (λ c. all-map (λ (b : Cell). Below (8 ∷ c.0) (cell_key b)) (λ (g : PageGroup). page_group_cell g.0 g.1 g.2 g.3) page.groups (λ g. refl)))

  parts_in_order : InOrder cell_key (parts_of page)
  parts_in_order =
      in_order-append cell_key (row_parts page.rows) (client_parts page.clients ++ group_parts page.groups)
      (in_order-images stored_key cell_key (λ (s : Stored). page_row_cell s.0 s.1) (λ a b below. below) page.rows sound.rows)
      named_in_order
      (all-map (λ (a : Cell). AllByRecursion (λ b. Below (cell_key a) (cell_key b)) (client_parts page.clients ++ group_parts page.groups)) (λ (s : Stored). page_row_cell s.0 s.1) page.rows
      (λ s. below_named (7 ∷ stored_key s) (λ c. refl) (λ g. refl)))

  below_parts : AllByRecursion (λ cell. Below (cell_key (page_cell page.at)) (cell_key cell)) (parts_of page)
  below_parts =
      all-append (λ cell. Below (6 ∷ []) (cell_key cell)) (row_parts page.rows) (client_parts page.clients ++ group_parts page.groups)
      (all-map (λ cell. Below (6 ∷ []) (cell_key cell)) (λ (s : Stored). page_row_cell s.0 s.1) page.rows (λ s. refl))
      (below_named (6 ∷ []) (λ c. refl) (λ g. refl))

pub page_cells-order : (page : Page) → IsSoundPage page → InOrder cell_key (page_cells page)
page_cells-order page sound =
    elim (page.at == 0) as (λ b. InOrder cell_key (cond b [] (page_cell page.at ∷ parts_of page))) [
      | true ↦ tt
      | false ↦ (below_parts page sound, parts_in_order page sound)
    ]

-- ---- The groups that the cells of a page name.

keys_found : (k : List ℕ) (groups : List PageGroup) → is_some (find_by (λ (g : PageGroup). g.0) k (map (λ (c : Cell). (c.key, [], 0, false)) (group_parts groups))) ≡ is_some (find_by (λ (g : PageGroup). g.0) k groups)
keys_found k [] = refl
keys_found k (g ∷ groups) = elim (bytes_eq k g.0) as (λ b. is_some (cond b (Some (g.0, [], 0, false)) (find_by (λ (h : PageGroup). h.0) k (map (λ (c : Cell). (c.key, [], 0, false)) (group_parts groups)))) ≡ is_some (cond b (Some g) (find_by (λ (h : PageGroup). h.0) k groups))) [ true ↦ refl | false ↦ keys_found k groups ]

-- they are the page's
pub named_own : (k : List ℕ) (page : Page) → 1 ≤ page.at → is_some (find_by (λ (g : PageGroup). g.0) k (named_groups (page_cells page))) ≡ is_some (find_by (λ (g : PageGroup). g.0) k page.groups)
named_own k page from = ap (λ (cells : List Cell). is_some (find_by (λ (g : PageGroup). g.0) k (map (λ (c : Cell). (c.key, [], 0, false)) cells))) (cells-9 page from) ∙ keys_found k page.groups

-- and in the order of the page's
named_order : (page : Page) → 1 ≤ page.at → InOrder (λ g. g.0) page.groups → InOrder (λ (g : PageGroup). g.0) (named_groups (page_cells page))
named_order page from order =
    subst (λ (cells : List Cell). InOrder (λ (g : PageGroup). g.0) (map (λ (c : Cell). (c.key, [], 0, false)) cells)) (sym (cells-9 page from))
    (in_order-images (λ (c : Cell). c.key) (λ (g : PageGroup). g.0) (λ (c : Cell). (c.key, [], 0, false)) (λ a b below. below) (group_parts page.groups)
    (in_order-images (λ (g : PageGroup). g.0) (λ (c : Cell). c.key) (λ (g : PageGroup). page_group_cell g.0 g.1 g.2 g.3) (λ a b below. below) page.groups order))

-- ---- The first of whole rows in the order of their keys are whole by themselves: a row names no list behind it.

names_none_behind : (row list : Row) → list_passes (λ id. is_list id list) row ≡ true → Below (row_text row) (row_text list) → ⊥
names_none_behind (variants.List row) (variants.List list) is below =
    let same : list.id ≡ row.id = (bytes_eq-Decides list.id row.id).0 is in
    let own : Below (row_text (variants.List row)) (row_text (variants.List row)) = subst (λ (id : List ℕ). Below (row_text (variants.List row)) (row_text (variants.List (record { id = id; name = list.name; owner = list.owner })))) same below in
    let both : true ≡ false = sym (equals (row_text (variants.List row))) ∙ differs (row_text (variants.List row)) (row_text (variants.List row)) own in
    cc
names_none_behind (variants.Extent row) (variants.List list) is below = let none : false ≡ true = is in cc
names_none_behind (variants.Share row) (variants.List list) is below = let both : Greater ≡ Less = below in cc
names_none_behind (variants.Todo row) (variants.List list) is below = let both : Greater ≡ Less = below in cc
names_none_behind row (variants.Extent list) is below = names_none (list_of row) is
names_none_behind row (variants.Share list) is below = names_none (list_of row) is
names_none_behind row (variants.Todo list) is below = names_none (list_of row) is

none_behind : (row : Row) (id : List ℕ) (rest : List Row) → list_of row ≡ Some id → AllByRecursion (λ list. Below (row_text row) (row_text list)) rest → list_any (is_list id) rest ≡ false
none_behind row id [] of below = refl
none_behind row id (list ∷ rest) of below = (λ i. here (is_list id list) refl i || none_behind row id rest of below.1 i)
  where
    here : (b : Bool) → is_list id list ≡ b → b ≡ false
    here true is = absurd (names_none_behind row list (ap (λ (o : Option (List ℕ)). option_map_or (λ id. is_list id list) o false) of ∙ is) below.0)
    here false is = refl

once_left : (front rest : List Row) → AreSharedOnce (front ++ rest) → AreSharedOnce front
once_left [] rest once = tt
once_left (row ∷ front) rest once = (all-left (λ later. share_alike row later ≡ false) front rest once.0, once_left front rest once.1)

module _ (front rest : List Row) where
  listed_left : (those : List Row) → AllByRecursion (λ row. AllByRecursion (λ list. Below (row_text row) (row_text list)) rest) those → AllByRecursion (λ row. has_its_list (front ++ rest) row ≡ true) those → AllByRecursion (λ row. has_its_list front row ≡ true) those
  listed_left [] below all = tt
  listed_left (row ∷ those) below all = (one (list_of row) refl all.0, listed_left those below.1 all.1)
    where
      one : (o : Option (List ℕ)) → list_of row ≡ o → option_map_or (λ list. list_any (is_list list) (front ++ rest)) o true ≡ true → option_map_or (λ list. list_any (is_list list) front) o true ≡ true
      one None of is = refl
      one (Some id) of is = sym (list_any-append (is_list id) front rest ∙ ap (λ (b : Bool). list_any (is_list id) front || b) (none_behind row id rest of below.0) ∙ or-false _) ∙ is

  others_left : (row : Row) → shared_with_owner (front ++ rest) row ≡ false → shared_with_owner front row ≡ false
  others_left (variants.Extent row) is = refl
  others_left (variants.List row) is = refl
  others_left (variants.Share row) is = left (list_any (owns row.user row.list) front) (list_any (owns row.user row.list) rest) (sym (list_any-append (owns row.user row.list) front rest) ∙ is)
    where
      left : (a b : Bool) → (a || b) ≡ false → a ≡ false
      left true b is = is
      left false b is = refl
  others_left (variants.Todo row) is = refl

  whole_left : InOrder row_text (front ++ rest) → AreWhole (front ++ rest) → AreWhole front
  whole_left order whole = record {
    listed = listed_left front (in_order-below row_text front rest order) (all-left (λ row. has_its_list (front ++ rest) row ≡ true) front rest whole.listed);
    once = once_left front rest whole.once;
    others = all-weaker (λ row. shared_with_owner (front ++ rest) row ≡ false) (λ row. shared_with_owner front row ≡ false) front others_left (all-left (λ row. shared_with_owner (front ++ rest) row ≡ false) front rest whole.others);
  }

first_whole : (n : ℕ) (rows : List Stored) → InOrder stored_key rows → AreWhole (rows_in rows) → AreWhole (rows_in (take n rows))
first_whole n rows order whole =
    let parted = sym (take-append-drop n (rows_in rows)) in
    let ordered = in_order-images stored_key row_text (λ (s : Stored). s.0) (λ a b below. below) rows order in
    subst AreWhole (take-map (λ (s : Stored). s.0) n rows) (whole_left (take n (rows_in rows)) (drop n (rows_in rows)) (subst (InOrder row_text) parted ordered) (subst AreWhole parted whole))

-- ---- The beginnings of a page.

-- the page with so many of its parts, the first of them
abbrev first_parts : ℕ → Page → Page
first_parts n page = record { at = page.at; rows = take n page.rows; clients = take (n - length page.rows) page.clients; groups = take ((n - length page.rows) - length page.clients) page.groups }

first_cells : (n : ℕ) (page : Page) → 1 ≤ page.at → page_cells (first_parts n page) ≡ take (suc n) (page_cells page)
first_cells n page from = written (first_parts n page) from ∙ sym (ap (take (suc n)) (written page from) ∙ ap (λ (cells : List Cell). page_cell page.at ∷ cells) parts)
  where
    parts : take n (parts_of page) ≡ parts_of (first_parts n page)
    parts =
        take-images (λ (s : Stored). page_row_cell s.0 s.1) n page.rows (client_parts page.clients ++ group_parts page.groups)
        ∙ ap (λ (cells : List Cell). row_parts (take n page.rows) ++ cells)
        (take-images (λ (c : PageClient). page_client_cell c.0 c.1 c.2) (n - length page.rows) page.clients (group_parts page.groups)
        ∙ ap (λ (cells : List Cell). client_parts (take (n - length page.rows) page.clients) ++ cells) (take-map (λ (g : PageGroup). page_group_cell g.0 g.1 g.2 g.3) ((n - length page.rows) - length page.clients) page.groups))

-- one of the cells names the client's group
abbrev IsAtHome : List Cell → PageClient → Type 0
IsAtHome cells c = IsSome (find_by (λ (g : PageGroup). g.0) c.1 (named_groups cells))

-- each of them is begun by the cells that keep the whole page
first_begins : (limit : ℕ) (cells : List Cell) (page : Page) (n : ℕ) → IsKeptPage limit cells page → Begins limit cells (first_parts n page)
first_begins limit cells page n kept =
    let sound = kept.sound in
    let whole : AreWhole (rows_in (take n page.rows)) = first_whole n page.rows sound.rows (record { listed = sound.listed; once = sound.once; others = sound.others }) in
    record {
      from = kept.from;
      within = kept.within;
      fits = record {
        rows = all-take RowFits n page.rows kept.fits.rows;
        clients = all-take ClientFits (n - length page.rows) page.clients kept.fits.clients;
        groups = all-take GroupFits ((n - length page.rows) - length page.clients) page.groups kept.fits.groups;
      };
      groups = in_order-take (λ (g : PageGroup). g.0) ((n - length page.rows) - length page.clients) page.groups sound.groups;
      sound = record {
        rows = in_order-take stored_key n page.rows sound.rows;
        clients = in_order-take (λ (c : PageClient). c.0) (n - length page.rows) page.clients sound.clients;
        groups = subst (λ (cs : List Cell). InOrder (λ (g : PageGroup). g.0) (named_groups cs)) (sym kept.are) (named_order page kept.from sound.groups);
        listed = whole.listed;
        once = whole.once;
        others = whole.others;
        versions = all-take (λ (s : Stored). (1 ≤ s.1) × (s.1 ≤ page.at)) n page.rows sound.versions;
        lasts = all-take (λ (c : PageClient). (1 ≤ c.2) × (c.2 ≤ page.at)) (n - length page.rows) page.clients sound.lasts;
        homes = all-take (IsAtHome cells) (n - length page.rows) page.clients (all-weaker (λ (c : PageClient). IsSome (find_by (λ (g : PageGroup). g.0) c.1 page.groups)) (IsAtHome cells) page.clients named sound.homes);
      };
    }
  where
    named : (c : PageClient) → IsSome (find_by (λ (g : PageGroup). g.0) c.1 page.groups) → IsAtHome cells c
    named c home = subst (λ (cs : List Cell). IsSome (find_by (λ (g : PageGroup). g.0) c.1 (named_groups cs))) (sym kept.are) (named_own c.1 page kept.from ∙ home)

-- ---- Where cells break.

-- so the cells of a kept page break nowhere
pub kept_unbroken : (limit : ℕ) (cells : List Cell) (page : Page) (damage : Damage) → limit < 2 ^ 32 → IsKeptPage limit cells page → ¬ BreaksPage limit cells damage
kept_unbroken limit cells page damage small kept broken =
    let n = length broken.front in
    broken.breaks (first_parts n page) (first_begins limit cells page n kept) (first_cells n page kept.from ∙ ap (take (suc n)) (sym kept.are ∙ broken.are) ∙ take-to broken.front broken.cell broken.rest)

-- where there are no cells nothing breaks, and there is no page
pub none_kept_unbroken : (limit : ℕ) (damage : Damage) → ¬ BreaksPage limit [] damage
none_kept_unbroken limit damage broken = not_none broken.front broken.cell broken.rest broken.are
  where
    not_none : (front : List Cell) (cell : Cell) (rest : List Cell) → [] ≡ front ++ cell ∷ rest → ⊥
    not_none [] cell rest are = cc
    not_none (x ∷ front) cell rest are = cc

pub none_kept_one : (limit : ℕ) (page : Page) → IsKeptPage limit [] page → ⊥
none_kept_one limit page kept = let gone : [] ≡ page_cell page.at ∷ parts_of page = kept.are ∙ written page kept.from in cc

-- The cells of two pages, of which the one has a cell more: it is that of one more row, client or group.
use Rattle.std.proofs.Common.{◌≡◌, ℕ, ◌≤◌, ◌==◌, Bool, true, false, cond, List, [], ◌∷◌, ◌++◌, map, refl, sym, ap, ◌∙◌, subst, arith}
use Rattle.std.specs.List.{filter, AllByRecursion}
use Rattle.std.proofs.lemmas.Bool.Decides.{Decides-eqb}
use Rattle.std.proofs.lemmas.List.Elements.{filter-append}
use Rattle.std.proofs.lemmas.Option.{same_Some}
use Rattle.rv_rows.specs.Held.{Stored}
use Rattle.rv_book.specs.declared.page.Page.{Page}
use Rattle.rv_keeper.specs.declared.cell.Cell.{Cell}
use Rattle.rv_record.specs.CellTexts.{page_cell, page_row_cell, page_client_cell, page_group_cell}
use Rattle.rv_record.specs.CellReading.{ClientFits, GroupFits, PageFits, client_in_cell, group_in_cell, page_in_cell}
use Rattle.rv_record.specs.RowReading.{RowFits, row_cell_in}
use Rattle.rv_record.specs.AgainLaws.{client_again, group_again, page_again, row_cell_again}
use Rattle.rv_record.specs.PageCells.{PageClient, PageGroup, PartsFit, client_parts, group_parts, page_cells, parts_of, row_parts}
use Rattle.rv_record.specs.ListLaws.{all-last, all-left, cons_parts, filter-all, filter-none, map-last, not_longer}

-- a page above place 0 has the cell of its place in front
pub written : (page : Page) → 1 ≤ page.at → page_cells page ≡ page_cell page.at ∷ parts_of page
written page from = by (page.at == 0) refl
  where
    by : (b : Bool) → (page.at == 0) ≡ b → cond b [] (page_cell page.at ∷ parts_of page) ≡ page_cell page.at ∷ parts_of page
    by true zero = absurd (let none : page.at ≡ 0 = (Decides-eqb page.at 0).0 zero in omega (arith, from))
    by false some_place = refl

-- cells tell what they are the cells of
pub place_same : (a b : ℕ) → PageFits a → PageFits b → page_cell a ≡ page_cell b → a ≡ b
place_same a b fits also same = same_Some a b (sym (page_again a fits) ∙ ap page_in_cell same ∙ page_again b also)

pub row_same : (a b : Stored) → RowFits a → RowFits b → page_row_cell a.0 a.1 ≡ page_row_cell b.0 b.1 → a ≡ b
row_same a b fits also same = same_Some a b (sym (row_cell_again 7 a fits) ∙ ap row_cell_in same ∙ row_cell_again 7 b also)

pub client_same : (a b : PageClient) → ClientFits a → ClientFits b → page_client_cell a.0 a.1 a.2 ≡ page_client_cell b.0 b.1 b.2 → a ≡ b
client_same a b fits also same = same_Some a b (sym (client_again 8 a fits) ∙ ap client_in_cell same ∙ client_again 8 b also)

pub group_same : (a b : PageGroup) → GroupFits a → GroupFits b → page_group_cell a.0 a.1 a.2 a.3 ≡ page_group_cell b.0 b.1 b.2 b.3 → a ≡ b
group_same a b fits also same = same_Some a b (sym (group_again 9 a fits) ∙ ap group_in_cell same ∙ group_again 9 b also)

module _ {X : Type 0} (cell_of : X → Cell) (Fits : X → Type 0) (one : (a b : X) → Fits a → Fits b → cell_of a ≡ cell_of b → a ≡ b) where
  pub each_same : (xs ys : List X) → AllByRecursion Fits xs → AllByRecursion Fits ys → map cell_of xs ≡ map cell_of ys → xs ≡ ys
  each_same [] [] fits also same = refl
  each_same [] (y ∷ ys) fits also same = absurd (cc)
  each_same (x ∷ xs) [] fits also same = absurd (cc)
  each_same (x ∷ xs) (y ∷ ys) fits also same =
      let parts = cons_parts (cell_of x) (cell_of y) (map cell_of xs) (map cell_of ys) same in
      let first = one x y fits.0 also.0 parts.0 in
      let rest = each_same xs ys fits.1 also.1 parts.1 in
      (λ i. first i ∷ rest i)

  -- one more cell is that of one more item
  pub one_more : (xs ys : List X) (cell : Cell) → AllByRecursion Fits xs → AllByRecursion Fits ys → map cell_of ys ≡ map cell_of xs ++ cell ∷ [] → (y : X) × Fits y × (ys ≡ xs ++ y ∷ []) × (cell ≡ cell_of y)
  one_more xs ys cell fits also same =
      let end = map-last cell_of ys (map cell_of xs) cell same in
      let all = subst (λ (zs : List X). AllByRecursion Fits zs) end.is also in
      let front = each_same end.front xs (all-left Fits end.front (end.last ∷ []) all) fits end.images in
      (end.last, all-last Fits end.front end.last all, end.is ∙ ap (λ (zs : List X). zs ++ end.last ∷ []) front, sym end.image)

-- the cells of one shelf
abbrev pub on : ℕ → List Cell → List Cell
on shelf cells = filter (λ cell. cell.shelf == shelf) cells

parts-on : (shelf : ℕ) (page : Page) → on shelf (parts_of page) ≡ on shelf (row_parts page.rows) ++ (on shelf (client_parts page.clients) ++ on shelf (group_parts page.groups))
parts-on shelf page =
    filter-append _ (row_parts page.rows) (client_parts page.clients ++ group_parts page.groups)
    ∙ ap (λ (cells : List Cell). on shelf (row_parts page.rows) ++ cells) (filter-append _ (client_parts page.clients) (group_parts page.groups))

append_none : {X : Type 0} (xs : List X) → xs ++ ([] ++ []) ≡ xs
append_none [] = refl
append_none (x ∷ xs) = ap (λ (ys : List _). x ∷ ys) (append_none xs)

append_nothing : {X : Type 0} (xs : List X) → xs ++ [] ≡ xs
append_nothing [] = refl
append_nothing (x ∷ xs) = ap (λ (ys : List _). x ∷ ys) (append_nothing xs)

rows-7 : (rows : List Stored) → on 7 (row_parts rows) ≡ row_parts rows
rows-7 rows = filter-all (λ (cell : Cell). cell.shelf == 7) (λ (s : Stored). page_row_cell s.0 s.1) rows (λ s. refl)

rows-8 : (rows : List Stored) → on 8 (row_parts rows) ≡ []
rows-8 rows = filter-none (λ (cell : Cell). cell.shelf == 8) (λ (s : Stored). page_row_cell s.0 s.1) rows (λ s. refl)

rows-9 : (rows : List Stored) → on 9 (row_parts rows) ≡ []
rows-9 rows = filter-none (λ (cell : Cell). cell.shelf == 9) (λ (s : Stored). page_row_cell s.0 s.1) rows (λ s. refl)

clients-7 : (clients : List PageClient) → on 7 (client_parts clients) ≡ []
clients-7 clients = filter-none (λ (cell : Cell). cell.shelf == 7) (λ (c : PageClient). page_client_cell c.0 c.1 c.2) clients (λ c. refl)

clients-8 : (clients : List PageClient) → on 8 (client_parts clients) ≡ client_parts clients
clients-8 clients = filter-all (λ (cell : Cell). cell.shelf == 8) (λ (c : PageClient). page_client_cell c.0 c.1 c.2) clients (λ c. refl)

clients-9 : (clients : List PageClient) → on 9 (client_parts clients) ≡ []
clients-9 clients = filter-none (λ (cell : Cell). cell.shelf == 9) (λ (c : PageClient). page_client_cell c.0 c.1 c.2) clients (λ c. refl)

groups-7 : (groups : List PageGroup) → on 7 (group_parts groups) ≡ []
groups-7 groups = filter-none (λ (cell : Cell). cell.shelf == 7) (λ (g : PageGroup). page_group_cell g.0 g.1 g.2 g.3) groups (λ g. refl)

groups-8 : (groups : List PageGroup) → on 8 (group_parts groups) ≡ []
groups-8 groups = filter-none (λ (cell : Cell). cell.shelf == 8) (λ (g : PageGroup). page_group_cell g.0 g.1 g.2 g.3) groups (λ g. refl)

groups-9 : (groups : List PageGroup) → on 9 (group_parts groups) ≡ group_parts groups
groups-9 groups = filter-all (λ (cell : Cell). cell.shelf == 9) (λ (g : PageGroup). page_group_cell g.0 g.1 g.2 g.3) groups (λ g. refl)

-- on each of its shelves a page has the cells of its rows, its clients and its groups
pub cells-7 : (page : Page) → 1 ≤ page.at → on 7 (page_cells page) ≡ row_parts page.rows
cells-7 page from = ap (on 7) (written page from) ∙ parts-on 7 page ∙ (λ i. rows-7 page.rows i ++ (clients-7 page.clients i ++ groups-7 page.groups i)) ∙ append_none (row_parts page.rows)

pub cells-8 : (page : Page) → 1 ≤ page.at → on 8 (page_cells page) ≡ client_parts page.clients
cells-8 page from = ap (on 8) (written page from) ∙ parts-on 8 page ∙ (λ i. rows-8 page.rows i ++ (clients-8 page.clients i ++ groups-8 page.groups i)) ∙ append_nothing (client_parts page.clients)

pub cells-9 : (page : Page) → 1 ≤ page.at → on 9 (page_cells page) ≡ group_parts page.groups
cells-9 page from = ap (on 9) (written page from) ∙ parts-on 9 page ∙ (λ i. rows-9 page.rows i ++ (clients-9 page.clients i ++ groups-9 page.groups i))

-- Two pages that are sound as far as they are told, of which the one has this cell more.
module _ (old more : Page) (cell : Cell) (from : 1 ≤ old.at) (also_from : 1 ≤ more.at) (fits : PartsFit old) (also : PartsFit more) (same : page_cells more ≡ page_cells old ++ cell ∷ []) where
  shelf_more : (shelf : ℕ) → on shelf (page_cells more) ≡ on shelf (page_cells old) ++ on shelf (cell ∷ [])
  shelf_more shelf = ap (on shelf) same ∙ filter-append _ (page_cells old) (cell ∷ [])

  own : (shelf : ℕ) → cell.shelf ≡ shelf → on shelf (cell ∷ []) ≡ cell ∷ []
  own shelf is = ap (λ (b : Bool). cond b (cell ∷ []) []) ((Decides-eqb cell.shelf shelf).1 is)

  other : (shelf : ℕ) → ¬ (cell.shelf ≡ shelf) → on shelf (cell ∷ []) ≡ []
  other shelf apart = by (cell.shelf == shelf) refl
    where
      by : (b : Bool) → (cell.shelf == shelf) ≡ b → cond b (cell ∷ []) [] ≡ []
      by true is = absurd (apart ((Decides-eqb cell.shelf shelf).0 is))
      by false is = refl

  rows_more : row_parts more.rows ≡ row_parts old.rows ++ on 7 (cell ∷ [])
  rows_more = sym (cells-7 more also_from) ∙ shelf_more 7 ∙ ap (λ (cells : List Cell). cells ++ on 7 (cell ∷ [])) (cells-7 old from)

  clients_more : client_parts more.clients ≡ client_parts old.clients ++ on 8 (cell ∷ [])
  clients_more = sym (cells-8 more also_from) ∙ shelf_more 8 ∙ ap (λ (cells : List Cell). cells ++ on 8 (cell ∷ [])) (cells-8 old from)

  groups_more : group_parts more.groups ≡ group_parts old.groups ++ on 9 (cell ∷ [])
  groups_more = sym (cells-9 more also_from) ∙ shelf_more 9 ∙ ap (λ (cells : List Cell). cells ++ on 9 (cell ∷ [])) (cells-9 old from)

  pub same_place : PageFits old.at → PageFits more.at → more.at ≡ old.at
  same_place small also_small =
      place_same more.at old.at also_small small
      (cons_parts (page_cell more.at) (page_cell old.at) (parts_of more) (parts_of old ++ cell ∷ []) (sym (written more also_from) ∙ same ∙ ap (λ (cells : List Cell). cells ++ cell ∷ []) (written old from))).0

  pub row_next : cell.shelf ≡ 7 → (s : Stored) × RowFits s × (more.rows ≡ old.rows ++ s ∷ []) × (cell ≡ page_row_cell s.0 s.1)
  row_next is = one_more (λ (s : Stored). page_row_cell s.0 s.1) RowFits row_same old.rows more.rows cell fits.rows also.rows (rows_more ∙ ap (λ (cells : List Cell). row_parts old.rows ++ cells) (own 7 is))

  pub client_next : cell.shelf ≡ 8 → (c : PageClient) × ClientFits c × (more.clients ≡ old.clients ++ c ∷ []) × (cell ≡ page_client_cell c.0 c.1 c.2)
  client_next is = one_more (λ (c : PageClient). page_client_cell c.0 c.1 c.2) ClientFits client_same old.clients more.clients cell fits.clients also.clients (clients_more ∙ ap (λ (cells : List Cell). client_parts old.clients ++ cells) (own 8 is))

  pub group_next : cell.shelf ≡ 9 → (g : PageGroup) × GroupFits g × (more.groups ≡ old.groups ++ g ∷ []) × (cell ≡ page_group_cell g.0 g.1 g.2 g.3)
  group_next is = one_more (λ (g : PageGroup). page_group_cell g.0 g.1 g.2 g.3) GroupFits group_same old.groups more.groups cell fits.groups also.groups (groups_more ∙ ap (λ (cells : List Cell). group_parts old.groups ++ cells) (own 9 is))

  -- it stands on a shelf of these
  pub no_other : PageFits old.at → PageFits more.at → ¬ (cell.shelf ≡ 7) → ¬ (cell.shelf ≡ 8) → ¬ (cell.shelf ≡ 9) → ⊥
  no_other small also_small row client group =
      let rows = rows_more ∙ ap (λ (cells : List Cell). row_parts old.rows ++ cells) (other 7 row) ∙ append_nothing (row_parts old.rows) in
      let clients = clients_more ∙ ap (λ (cells : List Cell). client_parts old.clients ++ cells) (other 8 client) ∙ append_nothing (client_parts old.clients) in
      let groups = groups_more ∙ ap (λ (cells : List Cell). group_parts old.groups ++ cells) (other 9 group) ∙ append_nothing (group_parts old.groups) in
      let whole : page_cells more ≡ page_cells old = written more also_from ∙ (λ i. page_cell (same_place small also_small i) ∷ (rows i ++ (clients i ++ groups i))) ∙ sym (written old from) in
      not_longer (page_cells old) cell (sym whole ∙ same)

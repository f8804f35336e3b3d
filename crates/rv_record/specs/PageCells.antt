-- The cells of the page that a book opens with: one for its place, and one for each of its rows, clients and groups. Where a book opens without
-- a page there are none.
use Rattle.std.specs.Prelude.{ℕ, List, [], ◌∷◌, ◌++◌, ◌==◌, ◌&&◌, Bool, map, nat_lt, if◌then◌else◌}
use Rattle.std.specs.List.{AllByRecursion}
use Rattle.rv_rows.specs.Held.{Stored}
use Rattle.rv_book.specs.declared.page.Page.{Page}
use Rattle.rv_keeper.specs.declared.cell.Cell.{Cell}
use Rattle.rv_record.specs.CellTexts.{page_cell, page_row_cell, page_client_cell, page_group_cell}
use Rattle.rv_record.specs.CellReading.{ClientFits, GroupFits}
use Rattle.rv_record.specs.RowReading.{RowFits}

-- a client of a page with its group and its last mutation id, and a group with its user, the order of its last look, and whether it is retired
abbrev pub PageClient : Type 0
PageClient = List ℕ × List ℕ × ℕ

abbrev pub PageGroup : Type 0
PageGroup = List ℕ × List ℕ × ℕ × Bool

abbrev pub row_parts : List Stored → List Cell
row_parts rows = map (λ s. page_row_cell s.0 s.1) rows

abbrev pub client_parts : List PageClient → List Cell
client_parts clients = map (λ c. page_client_cell c.0 c.1 c.2) clients

abbrev pub group_parts : List PageGroup → List Cell
group_parts groups = map (λ g. page_group_cell g.0 g.1 g.2 g.3) groups

-- what stands behind the place of a page
abbrev pub parts_of : Page → List Cell
parts_of page = row_parts page.rows ++ (client_parts page.clients ++ group_parts page.groups)

abbrev pub page_cells : Page → List Cell
page_cells page = if page.at == 0 then [] else page_cell page.at ∷ parts_of page

-- the cell stands on a shelf of the page
abbrev pub on_page : Cell → Bool
on_page cell = nat_lt 5 cell.shelf && nat_lt cell.shelf 10

-- rows, clients and groups are of the form
pub record PartsFit (page : Page) : Type 0 where
  pub rows : AllByRecursion RowFits page.rows
  pub clients : AllByRecursion ClientFits page.clients
  pub groups : AllByRecursion GroupFits page.groups

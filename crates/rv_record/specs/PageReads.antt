-- What is answered when the cells of a page are read.
use Rattle.std.specs.Prelude.{◌≡◌, ℕ, ◌^◌, ◌<◌, ◌≤◌, List, [], ◌∷◌, ◌++◌, ◌&&◌, Bool, true, not, IsSome, Option, Some, None, Result, Ok, Err}
use Rattle.std.specs.List.{AllByRecursion, list_any}
use Rattle.rv_base.specs.Sorted.{find_by, Below}
use Rattle.rv_rows.specs.declared.row.Row.{Row}
use Rattle.rv_rows.specs.declared.row.Row.TheVariants as variants
use Rattle.rv_rows.specs.Sharing.{is_list, owns, shares}
use Rattle.rv_book.specs.declared.page.Page.{Page}
use Rattle.rv_book.specs.SoundPages.{IsSoundPage}
use Rattle.rv_keeper.specs.declared.cell.Cell.{Cell}
use Rattle.rv_keeper.specs.Cells.{cell_key}
use Rattle.rv_record.specs.declared.fault.CellFault.{CellFault}
use Rattle.rv_record.specs.declared.fault.CellFault.TheVariants.{BadCell, Memory}
use Rattle.rv_record.specs.CellReading.{damage_at}
use Rattle.rv_record.specs.declared.page_read.PageRead.{PageRead}
use Rattle.rv_record.specs.PageCells.{PartsFit, page_cells}
use Rattle.rv_record.specs.Begins.{Begins, BreaksOff, BreaksPage}

-- The row may stand beside these, which come before it: a share or a todo names a list that is there, and a share one that its user neither
-- owns nor shares already.
abbrev pub stands_with : Row → List Row → Bool
stands_with (variants.Extent row) rows = true
stands_with (variants.List row) rows = true
stands_with (variants.Share row) rows = list_any (is_list row.list) rows && (not (list_any (owns row.user row.list) rows) && not (list_any (shares row.user row.list) rows))
stands_with (variants.Todo row) rows = list_any (is_list row.list) rows

-- a row with its version may stand on a page at a place behind these
abbrev pub RowFollows : ℕ → List Row → Row → ℕ → Type 0
RowFollows at rows row version = (1 ≤ version) × (version ≤ at) × (stands_with row rows ≡ true)

-- a client with this last mutation id may stand on a page at a place, where one of the cells names its group
abbrev pub ClientFollows : ℕ → List Cell → List ℕ → ℕ → Type 0
ClientFollows at cells group last = (1 ≤ last) × (last ≤ at) × IsSome (find_by cell_key (9 ∷ group) cells)

-- the cell stands behind those of the page
abbrev pub Follows : Page → Cell → Type 0
Follows page cell = AllByRecursion (λ before. Below (cell_key before) (cell_key cell)) (page_cells page)

-- a page that cells begin, with its rows as tables, where the limit is that of a place
pub record HasBegun (limit : ℕ) (cells : List Cell) (read : PageRead) : Type 0 where
  pub small : limit < 2 ^ 32
  pub begins : Begins limit cells read.page
  pub tables : read.tables.rows ≡ read.page.rows

-- What is answered of the next cell: the page with its part; or that with it no page is begun, and its place; or that memory was refused.
abbrev pub TakesNext : ℕ → List Cell → Page → Cell → Result (Unit {0}) CellFault → PageRead → Type 0
TakesNext limit cells old cell (Ok done) new = (page_cells new.page ≡ page_cells old ++ cell ∷ []) × HasBegun limit cells new
TakesNext limit cells old cell (Err (BadCell damage)) new = (damage ≡ damage_at cell) × BreaksOff limit cells (page_cells old) cell
TakesNext limit cells old cell (Err Memory) new = Unit {0}

-- the same of the first cell, which has nothing before it
abbrev pub BeginsWith : ℕ → List Cell → Cell → Result PageRead CellFault → Type 0
BeginsWith limit cells cell (Ok read) = (page_cells read.page ≡ cell ∷ []) × HasBegun limit cells read
BeginsWith limit cells cell (Err (BadCell damage)) = (damage ≡ damage_at cell) × BreaksOff limit cells [] cell
BeginsWith limit cells cell (Err Memory) = Unit {0}

-- a sound page at a place from 1 to the limit, whose parts are of the form and which is kept as these cells
pub record IsKeptPage (limit : ℕ) (cells : List Cell) (page : Page) : Type 0 where
  pub are : cells ≡ page_cells page
  pub from : 1 ≤ page.at
  pub within : page.at ≤ limit
  pub sound : IsSoundPage page
  pub fits : PartsFit page

-- What reading the cells of a page answers: the page that is kept as them, with its rows as tables; none where there are no cells; the place
-- of the first cell that breaks the page off; or that memory was refused, which may come at any cells.
abbrev pub ReadsPage : ℕ → List Cell → Result (Option PageRead) CellFault → Type 0
ReadsPage limit cells (Ok None) = cells ≡ []
ReadsPage limit cells (Ok (Some read)) = IsKeptPage limit cells read.page × (read.tables.rows ≡ read.page.rows)
ReadsPage limit cells (Err (BadCell damage)) = BreaksPage limit cells damage
ReadsPage limit cells (Err Memory) = Unit {0}

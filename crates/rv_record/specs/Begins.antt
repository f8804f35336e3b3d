-- Which cells begin a page, and which cell is the first that breaks it off.
use Rattle.std.specs.Prelude.{◌≡◌, ◌⊎◌, ℕ, ◌≤◌, List, [], ◌∷◌, ◌++◌, ◌==◌, false, map}
use Rattle.std.specs.List.{filter}
use Rattle.rv_base.specs.Sorted.{InOrder}
use Rattle.rv_book.specs.declared.page.Page.{Page}
use Rattle.rv_book.specs.SoundPages.{IsSoundPage}
use Rattle.rv_keeper.specs.declared.cell.Cell.{Cell}
use Rattle.rv_record.specs.declared.fault.Damage.{Damage}
use Rattle.rv_record.specs.CellReading.{damage_at}
use Rattle.rv_record.specs.PageCells.{PageGroup, PartsFit, page_cells}

-- the groups that the cells of shelf 9 name, whatever their bodies say
abbrev pub named_groups : List Cell → List PageGroup
named_groups cells = map (λ cell. (cell.key, [], 0, false)) (filter (λ cell. cell.shelf == 9) cells)

-- the page with these groups in the place of its own
abbrev pub with_groups : List PageGroup → Page → Page
with_groups groups page = record { at = page.at; rows = page.rows; clients = page.clients; groups = groups }

-- A page that is read from cells in their order, up to some cell of them. It is at a place from 1 to the limit, its parts are of the form, and
-- it is a sound page where each group that the cells name is taken to stand on it: groups stand behind the clients who name them.
pub record Begins (limit : ℕ) (cells : List Cell) (page : Page) : Type 0 where
  pub from : 1 ≤ page.at
  pub within : page.at ≤ limit
  pub fits : PartsFit page
  pub groups : InOrder (λ g. g.0) page.groups
  pub sound : IsSoundPage (with_groups (named_groups cells) page)

-- with this cell behind them, the cells in front begin no page
abbrev pub BreaksOff : ℕ → List Cell → List Cell → Cell → Type 0
BreaksOff limit cells front cell = (page : Page) → Begins limit cells page → ¬ (page_cells page ≡ front ++ cell ∷ [])

-- The first cell that is not that of a part, stands without the cell of a place before it, or breaks what makes a page sound.
pub record BreaksPage (limit : ℕ) (cells : List Cell) (damage : Damage) : Type 0 where
  pub front : List Cell
  pub cell : Cell
  pub rest : List Cell
  pub are : cells ≡ front ++ cell ∷ rest
  pub begins : (front ≡ []) ⊎ ((page : Page) × (front ≡ page_cells page) × Begins limit cells page)
  pub breaks : BreaksOff limit cells front cell
  pub at : damage ≡ damage_at cell

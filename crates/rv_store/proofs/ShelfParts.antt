-- Cells that stand shelf after shelf, each shelf with its changes: together these name each place once, and each leave what they leave of their own
-- shelf's cells.
use Rattle.std.proofs.Common.{◌≡◌, ℕ, ◌<◌, List, [], ◌∷◌, ◌++◌, refl, ◌∙◌, arith}
use Rattle.rv_base.specs.Sorted.{Distinct}
use Rattle.rv_keeper.specs.declared.cell.Cell.{Cell}
use Rattle.rv_keeper.specs.declared.change.Change.{Change}
use Rattle.rv_keeper.specs.Cells.{AreChanges, change_key, change_shelf, changed}
use Rattle.rv_store.specs.ShelfLaws.{OnShelf, Behind, AreOf, AreAfter, all-append, behind-on, changed-parts, distinct-parts}
use Rattle.rv_store.proofs.NextCells.{after_of}

-- the cells of one shelf, changes of that shelf, and what they leave
pub record Part : Type 0 where
  pub shelf : ℕ
  pub cells : List Cell
  pub changes : List Change
  pub left : List Cell

-- The cells and the changes are of the shelf; the changes name each place once, and leave what they are said to.
pub record IsPart (part : Part) : Type 0 where
  pub on : OnShelf part.shelf part.cells
  pub own : AreOf part.shelf part.changes
  pub once : Distinct change_key part.changes
  pub leaves : changed part.cells part.changes ≡ part.left

abbrev pub all_cells : List Part → List Cell
all_cells [] = []
all_cells (part ∷ parts) = part.cells ++ all_cells parts

abbrev pub all_changes : List Part → List Change
all_changes [] = []
all_changes (part ∷ parts) = part.changes ++ all_changes parts

abbrev pub all_left : List Part → List Cell
all_left [] = []
all_left (part ∷ parts) = part.left ++ all_left parts

-- they are parts, each on a shelf above the one before it, and the first above this shelf
abbrev pub ArePartsAfter : ℕ → List Part → Type 0
ArePartsAfter shelf [] = Unit {0}
ArePartsAfter shelf (part ∷ parts) = (shelf < part.shelf) × IsPart part × ArePartsAfter part.shelf parts

after_lower : (s t : ℕ) (parts : List Part) → s < t → ArePartsAfter t parts → ArePartsAfter s parts
after_lower s t [] low are = tt
after_lower s t (part ∷ parts) low are = (omega (arith, low, are.0), are.1, are.2)

cells_behind : (s : ℕ) (parts : List Part) → ArePartsAfter s parts → Behind s (all_cells parts)
cells_behind s [] are = tt
cells_behind s (part ∷ parts) are =
    all-append (λ cell. s < cell.shelf) part.cells (all_cells parts) (behind-on s part.shelf part.cells are.0 are.1.on) (cells_behind s parts (after_lower s part.shelf parts are.0 are.2))

changes_after : (s : ℕ) (parts : List Part) → ArePartsAfter s parts → AreAfter s (all_changes parts)
changes_after s [] are = tt
changes_after s (part ∷ parts) are =
    all-append (λ change. s < change_shelf change) part.changes (all_changes parts) (after_of s part.shelf part.changes are.0 are.1.own) (changes_after s parts (after_lower s part.shelf parts are.0 are.2))

pub parts_leave : (s : ℕ) (parts : List Part) → ArePartsAfter s parts → changed (all_cells parts) (all_changes parts) ≡ all_left parts
parts_leave s [] are = refl
parts_leave s (part ∷ parts) are =
    changed-parts part.shelf part.cells (all_cells parts) part.changes (all_changes parts) are.1.on (cells_behind part.shelf parts are.2) are.1.own (changes_after part.shelf parts are.2)
    ∙ (λ i. are.1.leaves i ++ parts_leave part.shelf parts are.2 i)

each_once : (s : ℕ) (parts : List Part) → ArePartsAfter s parts → Distinct change_key (all_changes parts)
each_once s [] are = tt
each_once s (part ∷ parts) are = distinct-parts part.shelf part.changes (all_changes parts) are.1.own (changes_after part.shelf parts are.2) are.1.once (each_once part.shelf parts are.2)

pub parts_are : (parts : List Part) → ArePartsAfter 0 parts → AreChanges (all_changes parts)
parts_are parts are = record { distinct = each_once 0 parts are; shelves = changes_after 0 parts are }

-- cells that stay as they are
abbrev pub kept_part : ℕ → List Cell → Part
kept_part shelf cells = record { shelf = shelf; cells = cells; changes = []; left = cells }

pub kept_is : (shelf : ℕ) (cells : List Cell) → OnShelf shelf cells → IsPart (kept_part shelf cells)
kept_is shelf cells on = record { on = on; own = tt; once = tt; leaves = refl }

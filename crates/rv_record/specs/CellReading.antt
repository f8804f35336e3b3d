-- What reading a cell answers. A reader first takes a cell for something, which may be more than the definition of cells
-- allows; it then makes that thing's cell anew, and answers it only where the two cells are the same.
use Rattle.std.specs.Prelude.{◌≡◌, ℕ, ◌<◌, ◌^◌, ◌&&◌, ◌==◌, List, Bool, Option, Some, Result, Ok, Err}
use Rattle.std.specs.Str.{IsUtf8, bytes_eq}
use Rattle.rv_base.specs.Options.{◌>>=◌}
use Rattle.rv_base.specs.Texts.{IsWithin}
use Rattle.rv_keeper.specs.declared.cell.Cell.{Cell}
use Rattle.rv_json.specs.JsonTexts.{json_in}
use Rattle.rv_record.specs.declared.fault.CellFault.{CellFault}
use Rattle.rv_record.specs.declared.fault.CellFault.TheVariants.{BadCell, Memory}
use Rattle.rv_record.specs.declared.fault.Damage.{Damage}
use Rattle.rv_record.specs.ValueReading.{utf8_text_in, text_item, num_item, flag_item, place_in}

-- the damage at the cell's own place
abbrev pub damage_at : Cell → Damage
damage_at cell = record { shelf = cell.shelf; key = cell.key }

-- the fault names the cell's own place, or says that memory was refused
abbrev pub Blames : Cell → CellFault → Type 0
Blames cell (BadCell damage) = damage ≡ damage_at cell
Blames cell Memory = Unit {0}

module _ {A : Type 0} (cell_of : A → Cell) (Fits : A → Type 0) where
  -- the cell is that of nothing that fits
  abbrev pub IsOfNone : Cell → Type 0
  IsOfNone cell = (made : A) → Fits made → ¬ (cell ≡ cell_of made)

  -- What reading a cell answers: what it is the cell of; or its place, where it is that of nothing; or that memory was
  -- refused, which may come at any cell.
  abbrev pub ReadsCell : Cell → Result A CellFault → Type 0
  ReadsCell cell (Ok made) = cell ≡ cell_of made
  ReadsCell cell (Err (BadCell damage)) = (damage ≡ damage_at cell) × IsOfNone cell
  ReadsCell cell (Err Memory) = Unit {0}

-- the cells have the same shelf, key and body
abbrev pub same_cell : Cell → Cell → Bool
same_cell a b = (a.shelf == b.shelf) && bytes_eq a.key b.key && bytes_eq a.body b.body

-- a text of at least low and at most high bytes, which are UTF-8
abbrev pub IsText : ℕ → ℕ → List ℕ → Type 0
IsText low high text = IsWithin low high text × IsUtf8 text

-- a client, its group and its last mutation id
abbrev pub ClientFits : List ℕ × List ℕ × ℕ → Type 0
ClientFits c = IsText 1 128 c.0 × IsText 1 128 c.1 × (c.2 < 2 ^ 53)

-- a group, its user, the order of its last look and whether it is retired
abbrev pub GroupFits : List ℕ × List ℕ × ℕ × Bool → Type 0
GroupFits g = IsText 1 128 g.0 × IsText 1 64 g.1 × (g.2 < 2 ^ 53)

unfoldable pub client_in_cell : Cell → Option (List ℕ × List ℕ × ℕ)
client_in_cell cell = do
  client ← utf8_text_in 1 128 cell.key
  body ← json_in cell.body
  group ← text_item 1 128 0 body
  last ← num_item 1 body
  Some (client, group, last)

unfoldable pub group_in_cell : Cell → Option (List ℕ × List ℕ × ℕ × Bool)
group_in_cell cell = do
  group ← utf8_text_in 1 128 cell.key
  body ← json_in cell.body
  user ← text_item 1 64 0 body
  order ← num_item 1 body
  retired ← flag_item 2 body
  Some (group, user, order, retired)

-- the place of a page
abbrev pub PageFits : ℕ → Type 0
PageFits place = place < 2 ^ 32

unfoldable pub page_in_cell : Cell → Option ℕ
page_in_cell cell = do
  body ← json_in cell.body
  place_in body

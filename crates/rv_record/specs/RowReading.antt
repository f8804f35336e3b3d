-- What the cell of a row is read as.
use Rattle.std.specs.Prelude.{ℕ, ◌<◌, ◌^◌, Option, Some}
use Rattle.std.specs.List.{AllByRecursion}
use Rattle.std.specs.Str.{IsUtf8}
use Rattle.serde_json.specs.Find.{at}
use Rattle.rv_base.specs.Options.{◌>>=◌}
use Rattle.rv_rows.specs.declared.row.Row.{Row}
use Rattle.rv_rows.specs.declared.row.Row.TheVariants as variants
use Rattle.rv_rows.specs.RowTexts.{RowIsWithin, row_in}
use Rattle.rv_json.specs.JsonTexts.{json_in}
use Rattle.rv_keeper.specs.declared.cell.Cell.{Cell}
use Rattle.rv_record.specs.ValueReading.{place_item}

-- the row's texts are UTF-8
abbrev pub HasTexts : Row → Type 0
HasTexts (variants.Extent row) = IsUtf8 row.user × AllByRecursion IsUtf8 row.lists
HasTexts (variants.List row) = IsUtf8 row.id × IsUtf8 row.name × IsUtf8 row.owner
HasTexts (variants.Share row) = IsUtf8 row.id × IsUtf8 row.list × IsUtf8 row.user
HasTexts (variants.Todo row) = IsUtf8 row.id × IsUtf8 row.list × IsUtf8 row.text

-- a row and its version
abbrev pub RowFits : Row × ℕ → Type 0
RowFits r = RowIsWithin r.0 × HasTexts r.0 × (r.1 < 2 ^ 32)

unfoldable pub row_cell_in : Cell → Option (Row × ℕ)
row_cell_in cell = do
  body ← json_in cell.body
  version ← place_item 0 body
  value ← at 1 body
  row ← row_in value
  Some (row, version)

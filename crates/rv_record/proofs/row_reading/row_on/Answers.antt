use Rattle.std.proofs.Common.{ℕ}
use Rattle.rv_rows.specs.declared.row.Row.{Row}
use Rattle.rv_keeper.specs.declared.cell.Cell.{Cell}
use Rattle.rv_record.specs.CellTexts.{row_cell_on}
use Rattle.rv_record.specs.RowReading.{RowFits, row_cell_in}
use Rattle.rv_record.specs.AgainLaws.{row_cell_again}
use Rattle.rv_record.proofs.Settling.{not_found, other_found}
use Rattle.rv_record.proofs.row_reading.row_on.Goals as goal

abbrev row_cells : ℕ → Row × ℕ → Cell
row_cells shelf r = row_cell_on shelf r.0 r.1

pub returns-in_default : goal.returns-in_default
returns-in_default c = not_found (row_cells c.args.shelf) RowFits row_cell_in (row_cell_again c.args.shelf) c.args.cell.now c.in_ok-made.field-0 c.damaged.result c.in_default.is c.in_ok-made.ensures c.damaged.ensures

pub returns-else-is_same : goal.returns-else-is_same
returns-else-is_same c =
    other_found (row_cells c.args.shelf) RowFits row_cell_in (row_cell_again c.args.shelf) c.args.cell.now c.in_ok-again.again c.in_ok-made.field-0 c.in-Some.made c.is_same.result c.damaged-else-is_same.result
    c.in-Some.is c.in_ok-made.ensures c.in_ok-again.ensures.cell c.is_same.ensures c.if-is_same.false c.damaged-else-is_same.ensures

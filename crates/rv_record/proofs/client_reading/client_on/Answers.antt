use Rattle.std.proofs.Common.{ℕ, List}
use Rattle.rv_keeper.specs.declared.cell.Cell.{Cell}
use Rattle.rv_record.specs.CellTexts.{client_cell_on}
use Rattle.rv_record.specs.CellReading.{ClientFits, client_in_cell}
use Rattle.rv_record.specs.AgainLaws.{client_again}
use Rattle.rv_record.proofs.Settling.{not_found, other_found}
use Rattle.rv_record.proofs.client_reading.client_on.Goals as goal

abbrev client_cells : ℕ → List ℕ × List ℕ × ℕ → Cell
client_cells shelf c = client_cell_on shelf c.0 c.1 c.2

pub returns-in_default : goal.returns-in_default
returns-in_default c = not_found (client_cells c.args.shelf) ClientFits client_in_cell (client_again c.args.shelf) c.args.cell.now c.in_ok-made.field-0 c.damaged.result c.in_default.is c.in_ok-made.ensures c.damaged.ensures

pub returns-else-is_same : goal.returns-else-is_same
returns-else-is_same c =
    other_found (client_cells c.args.shelf) ClientFits client_in_cell (client_again c.args.shelf) c.args.cell.now c.in_ok-again.again c.in_ok-made.field-0 c.in-Some.made c.is_same.result c.damaged-else-is_same.result
    c.in-Some.is c.in_ok-made.ensures c.in_ok-again.ensures.cell c.is_same.ensures c.if-is_same.false c.damaged-else-is_same.ensures

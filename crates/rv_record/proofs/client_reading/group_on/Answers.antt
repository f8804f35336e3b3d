use Rattle.std.proofs.Common.{ℕ, List, Bool}
use Rattle.rv_keeper.specs.declared.cell.Cell.{Cell}
use Rattle.rv_record.specs.CellTexts.{group_cell_on}
use Rattle.rv_record.specs.CellReading.{GroupFits, group_in_cell}
use Rattle.rv_record.specs.AgainLaws.{group_again}
use Rattle.rv_record.proofs.Settling.{not_found, other_found}
use Rattle.rv_record.proofs.client_reading.group_on.Goals as goal

abbrev group_cells : ℕ → List ℕ × List ℕ × ℕ × Bool → Cell
group_cells shelf g = group_cell_on shelf g.0 g.1 g.2 g.3

pub returns-in_default : goal.returns-in_default
returns-in_default c = not_found (group_cells c.args.shelf) GroupFits group_in_cell (group_again c.args.shelf) c.args.cell.now c.in_ok-made.field-0 c.damaged.result c.in_default.is c.in_ok-made.ensures c.damaged.ensures

pub returns-else-is_same : goal.returns-else-is_same
returns-else-is_same c =
    other_found (group_cells c.args.shelf) GroupFits group_in_cell (group_again c.args.shelf) c.args.cell.now c.in_ok-again.again c.in_ok-made.field-0 c.in-Some.made c.is_same.result c.damaged-else-is_same.result
    c.in-Some.is c.in_ok-made.ensures c.in_ok-again.ensures.cell c.is_same.ensures c.if-is_same.false c.damaged-else-is_same.ensures

use Rattle.rv_record.specs.ViewReading.{ViewFits}
use Rattle.rv_record.proofs.ViewAgain.{view_cells, no_view, only_view}
use Rattle.rv_record.proofs.Settling.{blamed, blamed_other}
use Rattle.rv_record.proofs.view_reading.view_of_cell.Goals as goal

pub returns-in_default-2-clause-reads : goal.returns-in_default-2-clause-reads
returns-in_default-2-clause-reads c =
    blamed view_cells ViewFits c.args.cell.now c.damaged-in_default-2.result c.damaged-in_default-2.ensures
    (no_view c.args.cell.now c.as_slice-2.result.now c.in_ok-view.field-0 c.as_slice-2.ensures c.in_default-2.is c.in_ok-view.ensures)

pub returns-else-is_same-clause-reads : goal.returns-else-is_same-clause-reads
returns-else-is_same-clause-reads c =
    blamed_other view_cells ViewFits c.args.cell.now c.in_ok-again.again (c.in-Some.place, c.in-Some-2.view) c.is_same.result c.damaged-else-is_same.result
    (only_view c.args.cell.now c.as_slice.result.now c.as_slice-2.result.now c.in_ok-view.field-0 c.in-Some.place c.in-Some-2.view c.as_slice.ensures c.as_slice-2.ensures c.in-Some.ensures.written c.in-Some-2.is c.in_ok-view.ensures)
    c.in_ok-again.ensures.cell c.is_same.ensures c.if-is_same.false c.damaged-else-is_same.ensures

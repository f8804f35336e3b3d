use Rattle.rv_record.specs.EntryReading.{PlacedFits}
use Rattle.rv_record.proofs.EntryAgain.{entry_cells, no_entry, only_entry}
use Rattle.rv_record.proofs.Settling.{blamed, blamed_other}
use Rattle.rv_record.proofs.entry_reading.entry_of_cell.Goals as goal

pub returns-in_default-2-clause-reads : goal.returns-in_default-2-clause-reads
returns-in_default-2-clause-reads c =
    blamed entry_cells PlacedFits c.args.cell.now c.damaged-in_default-2.result c.damaged-in_default-2.ensures
    (no_entry c.args.cell.now c.as_slice-2.result.now c.in_ok-entry.field-0 c.as_slice-2.ensures c.in_default-2.is c.in_ok-entry.ensures)

pub returns-else-is_same-clause-reads : goal.returns-else-is_same-clause-reads
returns-else-is_same-clause-reads c =
    blamed_other entry_cells PlacedFits c.args.cell.now c.in_ok-again.again (c.in-Some.place, c.in-Some-2.entry) c.is_same.result c.damaged-else-is_same.result
    (only_entry c.args.cell.now c.as_slice.result.now c.as_slice-2.result.now c.in_ok-entry.field-0 c.in-Some.place c.in-Some-2.entry c.as_slice.ensures c.as_slice-2.ensures c.in-Some.ensures.written c.in-Some-2.is c.in_ok-entry.ensures)
    c.in_ok-again.ensures.cell c.is_same.ensures c.if-is_same.false c.damaged-else-is_same.ensures

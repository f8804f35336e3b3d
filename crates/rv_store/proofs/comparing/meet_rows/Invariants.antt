use Rattle.rv_store.specs.StoreCells.{row_cells}
use Rattle.rv_store.proofs.FirstDifference.{Met}
use Rattle.rv_store.proofs.comparing.meet_rows.Given as goal

abbrev pub invariant-loop-row : goal.invariant-loop-row
invariant-loop-row l = record {
  can_next : (goal.iterator-loop-row).can_next l.row-iterator;
  is_finite : (goal.iterator-loop-row).is_finite l.row-iterator;
  met : Met (row_cells l.tables.rows) (row_cells l.row-iterator) l.loaded l.rest;
}

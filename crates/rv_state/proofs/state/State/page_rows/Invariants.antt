use Rattle.std.proofs.Common.{◌≡◌, ◌++◌}
use Rattle.std.specs.List.{AllByRecursion}
use Rattle.rv_record.specs.RowReading.{RowFits}
use Rattle.rv_state.proofs.state.State.page_rows.Given as goal

abbrev pub invariant-loop-row : goal.invariant-loop-row
invariant-loop-row l = record {
  can_next : (goal.iterator-loop-row).can_next l.row-iterator;
  is_finite : (goal.iterator-loop-row).is_finite l.row-iterator;
  so_far : l.rows ++ l.row-iterator ≡ l.self-inside.tables.rows;
  fits : AllByRecursion RowFits l.rows;
}

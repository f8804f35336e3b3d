use Rattle.std.proofs.Common.{◌≡◌, ◌+◌, ◌++◌, length}
use Rattle.rv_sharing.specs.Gathered.{of_list, rows_at}
use Rattle.rv_sharing.proofs.gathering.rows_of_one.Given as goal

abbrev pub invariant-loop-item : goal.invariant-loop-item
invariant-loop-item g l = record {
  can_next : (goal.iterator-loop-item g).can_next l.item-iterator;
  is_finite : (goal.iterator-loop-item g).is_finite l.item-iterator;
  so_far : rows_at l.rows.items ++ l.item-iterator ≡ of_list l.list l.tables.rows;
  read : l.steps ≡ l.initial.steps + length l.rows.items;
}

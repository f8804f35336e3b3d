use Rattle.std.proofs.Common.{◌≡◌, ◌++◌}
use Rattle.rv_keeper.proofs.shelves.Shelves.cells.Given as goal

abbrev pub invariant-loop-cell : goal.invariant-loop-cell
invariant-loop-cell l = record {
  can_next : (goal.iterator-loop-cell).can_next l.cell-iterator;
  is_finite : (goal.iterator-loop-cell).is_finite l.cell-iterator;
  cells : l.cells ++ l.cell-iterator ≡ l.self;
}

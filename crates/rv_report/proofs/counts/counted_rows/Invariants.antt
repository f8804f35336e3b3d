use Rattle.std.proofs.Common.{◌≡◌, ◌++◌, map}
use Rattle.rv_report.specs.Counted.{counted_as}
use Rattle.rv_report.proofs.counts.counted_rows.Given as goal

-- with those of the rows that are left, it is what all rows count as
abbrev pub invariant-loop-row : goal.invariant-loop-row
invariant-loop-row l = record {
  can_next : (goal.iterator-loop-row).can_next l.row-iterator;
  is_finite : (goal.iterator-loop-row).is_finite l.row-iterator;
  counts : l.counted.items ++ map (λ s. counted_as s.0) l.row-iterator ≡ map (λ s. counted_as s.0) l.fn.rows;
}

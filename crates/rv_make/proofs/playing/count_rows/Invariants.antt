use Rattle.std.proofs.Common.{◌≡◌, ◌+◌, length}
use Rattle.rv_make.proofs.playing.count_rows.Given as goal

-- There is a mark for each row that was walked.
abbrev pub invariant-loop-row : goal.invariant-loop-row
invariant-loop-row l = record {
  can_next : (goal.iterator-loop-row).can_next l._row-iterator;
  is_finite : (goal.iterator-loop-row).is_finite l._row-iterator;
  count : length l.marks.items + length l._row-iterator ≡ length l.tables.rows;
}

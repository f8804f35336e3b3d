use Rattle.std.proofs.Common.{◌≡◌, ◌++◌}
use Rattle.std.specs.List.{flat_map}
use Rattle.rv_report.specs.Lists.{line_of_list}
use Rattle.rv_report.proofs.lists.lists_text.Given as goal

-- with the lines of the rows that are left, the text is all lines
abbrev pub invariant-loop-row : goal.invariant-loop-row
invariant-loop-row l = record {
  can_next : (goal.iterator-loop-row).can_next l.row-iterator;
  is_finite : (goal.iterator-loop-row).is_finite l.row-iterator;
  lines : l.out.items ++ flat_map (line_of_list l.tables.rows) l.row-iterator ≡ flat_map (line_of_list l.tables.rows) l.tables.rows;
}

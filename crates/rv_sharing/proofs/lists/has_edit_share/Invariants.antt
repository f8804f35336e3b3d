use Rattle.std.proofs.Common.{◌≡◌}
use Rattle.std.specs.List.{list_any}
use Rattle.rv_rows.specs.Held.{rows_in}
use Rattle.rv_rows.specs.Sharing.{lets_edit}
use Rattle.rv_sharing.proofs.lists.has_edit_share.Given as goal

abbrev pub invariant-loop-row : goal.invariant-loop-row
invariant-loop-row l = record {
  can_next : (goal.iterator-loop-row).can_next l.row-iterator;
  is_finite : (goal.iterator-loop-row).is_finite l.row-iterator;
  same : list_any (lets_edit l.user l.list) (rows_in l.row-iterator) ≡ list_any (lets_edit l.user l.list) (rows_in l.tables.rows);
}

use Rattle.rv_rows.specs.Held.{rows_in}
use Rattle.rv_sharing.proofs.OpenedLaws.{Opening}
use Rattle.rv_sharing.proofs.views.lists_opened.Given as goal

abbrev pub invariant-loop-row : goal.invariant-loop-row
invariant-loop-row l = record {
  can_next : (goal.iterator-loop-row).can_next l.row-iterator;
  is_finite : (goal.iterator-loop-row).is_finite l.row-iterator;
  opening : Opening l.user (rows_in l.tables.rows) l.lists.items l.row-iterator;
}

use Rattle.rv_rows.specs.Held.{rows_in}
use Rattle.rv_sharing.proofs.ViewerLaws.{Adding}
use Rattle.rv_sharing.proofs.viewers.add_named.Given as goal

abbrev pub invariant-loop-row : goal.invariant-loop-row
invariant-loop-row l = record {
  can_next : (goal.iterator-loop-row).can_next l.row-iterator;
  is_finite : (goal.iterator-loop-row).is_finite l.row-iterator;
  adding : Adding l.list (rows_in l.tables.rows) l.fn.users l.users.items l.row-iterator;
}

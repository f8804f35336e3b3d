use Rattle.std.proofs.Common.{◌≡◌}
use Rattle.std.specs.List.{list_any}
use Rattle.rv_rows.specs.Held.{rows_in, AreRows}
use Rattle.rv_rows.specs.Sharing.{shares}
use Rattle.rv_sharing.proofs.lists.has_share.Given as goal

abbrev pub invariant-loop-row : goal.invariant-loop-row
invariant-loop-row l = record {
  can_next : (goal.iterator-loop-row).can_next l.row-iterator;
  is_finite : (goal.iterator-loop-row).is_finite l.row-iterator;
  same : list_any (shares l.user l.list) (rows_in l.row-iterator) ≡ list_any (shares l.user l.list) (rows_in l.tables.rows);
  beside : list_any (shares l.user l.list) (rows_in l.of_list) ≡ list_any (shares l.user l.list) (rows_in l.tables.rows);
  order : AreRows l.of_list;
}

use Rattle.std.proofs.Common.{◌≡◌, ◌++◌, map}
use Rattle.std.specs.List.{filter}
use Rattle.rv_rows.specs.Held.{rows_in}
use Rattle.rv_rows.specs.Keys.{row_key}
use Rattle.rv_rows.specs.Sharing.{belongs}
use Rattle.rv_mutators.proofs.lists.keys_of.Given as goal

abbrev pub invariant-loop-row : goal.invariant-loop-row
invariant-loop-row l = record {
  can_next : (goal.iterator-loop-row).can_next l.row-iterator;
  is_finite : (goal.iterator-loop-row).is_finite l.row-iterator;
  rest : l.keys ++ map row_key (rows_in l.row-iterator) ≡ map row_key (filter (belongs l.list) (rows_in l.tables.rows));
}

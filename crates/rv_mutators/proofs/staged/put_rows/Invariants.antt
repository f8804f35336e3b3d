use Rattle.std.proofs.Common.{◌≡◌, ◌≤◌, length}
use Rattle.std.specs.Prelude.{fold}
use Rattle.std.specs.Vec.Iter.{into_iter_items, into_iter_len}
use Rattle.rv_rows.specs.Held.{put}
use Rattle.rv_mutators.proofs.staged.put_rows.Given as goal

abbrev pub invariant-loop-row : goal.invariant-loop-row
invariant-loop-row l = record {
  rows : fold (λ t row. put (row, l.version) t) l.tables.rows (into_iter_items l.row-iterator) ≡ fold (λ t row. put (row, l.version) t) l.initial.tables.rows (into_iter_items l.initial.row-iterator);
  count : into_iter_len l.row-iterator ≡ length (into_iter_items l.row-iterator);
  spare : into_iter_len l.row-iterator ≤ l.tables.spare;
}

use Rattle.std.proofs.Common.{◌≡◌, ◌++◌, take}
use Rattle.rv_store.specs.EntryChanges.{written_rows}
use Rattle.rv_store.proofs.changes.add_written_rows.Given as goal

abbrev pub invariant-loop-row : goal.invariant-loop-row
invariant-loop-row l = l.changes.items ≡ l.initial.changes.items ++ written_rows l.version (take l.row-index l.rows)

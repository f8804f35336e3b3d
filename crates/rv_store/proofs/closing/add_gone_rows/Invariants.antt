use Rattle.std.proofs.Common.{◌≡◌, ◌++◌, take}
use Rattle.rv_store.specs.ClosingChanges.{gone_rows}
use Rattle.rv_store.proofs.closing.add_gone_rows.Given as goal

abbrev pub invariant-loop-row : goal.invariant-loop-row
invariant-loop-row l = l.changes.items ≡ l.initial.changes.items ++ gone_rows (take l.row-index l.row-items) l.tables.rows

use Rattle.std.proofs.Common.{◌≡◌, ◌++◌, take}
use Rattle.rv_store.specs.EntryChanges.{removed_rows}
use Rattle.rv_store.proofs.changes.add_removed_rows.Given as goal

abbrev pub invariant-loop-key : goal.invariant-loop-key
invariant-loop-key l = l.changes.items ≡ l.initial.changes.items ++ removed_rows (take l.key-index l.keys)

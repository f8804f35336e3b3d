use Rattle.std.proofs.Common.{◌≡◌, ◌++◌, take}
use Rattle.rv_store.specs.ClosingChanges.{gone_records}
use Rattle.rv_store.proofs.closing.add_gone_records.Given as goal

abbrev pub invariant-loop-place : goal.invariant-loop-place
invariant-loop-place l = l.changes.items ≡ l.initial.changes.items ++ gone_records (take l.place-index l.place-items)

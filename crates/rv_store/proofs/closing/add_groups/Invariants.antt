use Rattle.std.proofs.Common.{◌≡◌, ◌++◌, take}
use Rattle.rv_store.specs.ClosingChanges.{put_groups}
use Rattle.rv_store.proofs.closing.add_groups.Given as goal

abbrev pub invariant-loop-group : goal.invariant-loop-group
invariant-loop-group l = l.changes.items ≡ l.initial.changes.items ++ put_groups (take l.group-index l.groups)

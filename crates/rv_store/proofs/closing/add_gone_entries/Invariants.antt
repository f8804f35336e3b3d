use Rattle.std.proofs.Common.{◌≡◌, ◌≤◌, ◌+◌, ◌-◌, ◌++◌}
use Rattle.rv_store.specs.ClosingChanges.{gone_entries}
use Rattle.rv_store.proofs.closing.add_gone_entries.Given as goal

abbrev pub invariant-loop-before : goal.invariant-loop-before
invariant-loop-before l = record {
  from : l.book.book.page.at ≤ l.before;
  within : l.before ≤ l.before-end;
  so_far : l.changes.items ≡ l.initial.changes.items ++ gone_entries (l.book.book.page.at + 1) (l.before - l.book.book.page.at);
}

use Rattle.std.proofs.Common.{◌≡◌, ◌++◌, take}
use Rattle.rv_store.specs.EntryChanges.{gone_views}
use Rattle.rv_store.proofs.view_changes.add_gone_views.Given as goal

abbrev pub invariant-loop-place : goal.invariant-loop-place
invariant-loop-place l = l.changes.items ≡ l.initial.changes.items ++ gone_views l.group l.book.book (take l.place-index l.place-items)

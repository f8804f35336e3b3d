use Rattle.std.proofs.Common.{◌≡◌, take}
use Rattle.std.specs.List.{fold}
use Rattle.rv_history.specs.Replay.{rows_after}
use Rattle.rv_plain.proofs.book.replayed.Given as goal

abbrev pub invariant-loop-entry : goal.invariant-loop-entry
invariant-loop-entry l = l.rows.items ≡ fold rows_after l.fn.rows.items (take l.entry-index l.entries)

use Rattle.std.proofs.Common.{◌≡◌, take}
use Rattle.std.specs.List.{fold}
use Rattle.rv_book.specs.Entries.{order_after}
use Rattle.rv_plain.proofs.book.order_in.Given as goal

abbrev pub invariant-loop-entry : goal.invariant-loop-entry
invariant-loop-entry l = l.order ≡ fold (order_after l.group) l.fn.first (take l.entry-index l.entries)

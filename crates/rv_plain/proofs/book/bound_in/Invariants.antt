use Rattle.std.proofs.Common.{◌≡◌, drop}
use Rattle.rv_book.specs.Entries.{bound_in}
use Rattle.rv_plain.proofs.book.bound_in.Given as goal

abbrev pub invariant-loop-entry : goal.invariant-loop-entry
invariant-loop-entry l = bound_in l.group (drop l.entry-index l.entries) ≡ bound_in l.group l.entries

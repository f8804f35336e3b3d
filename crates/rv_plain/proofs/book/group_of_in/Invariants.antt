use Rattle.std.proofs.Common.{◌≡◌, drop}
use Rattle.rv_book.specs.Entries.{group_of_in}
use Rattle.rv_plain.proofs.book.group_of_in.Given as goal

abbrev pub invariant-loop-entry : goal.invariant-loop-entry
invariant-loop-entry l = group_of_in l.client (drop l.entry-index l.entries) ≡ group_of_in l.client l.entries

use Rattle.std.proofs.Common.{◌≡◌, ◌++◌, take}
use Rattle.std.specs.List.{filter_map}
use Rattle.rv_book.specs.Book.{acting_client}
use Rattle.rv_plain.proofs.registers.add_acting.Given as goal

abbrev pub invariant-loop-entry : goal.invariant-loop-entry
invariant-loop-entry l = l.names ≡ l.fn.names ++ filter_map acting_client (take l.entry-index l.entries)

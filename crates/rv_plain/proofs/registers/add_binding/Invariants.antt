use Rattle.std.proofs.Common.{◌≡◌, ◌++◌, take}
use Rattle.std.specs.List.{filter_map}
use Rattle.rv_book.specs.Registers.{binding_group}
use Rattle.rv_plain.proofs.registers.add_binding.Given as goal

abbrev pub invariant-loop-entry : goal.invariant-loop-entry
invariant-loop-entry l = l.names ≡ l.fn.names ++ filter_map binding_group (take l.entry-index l.entries)

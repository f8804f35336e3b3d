use Rattle.std.proofs.Common.{◌≡◌, take}
use Rattle.std.specs.List.{filter_map}
use Rattle.rv_book.specs.Registers.{group_named}
use Rattle.rv_plain.proofs.registers.told_groups.Given as goal

abbrev pub invariant-loop-name : goal.invariant-loop-name
invariant-loop-name l = l.groups ≡ filter_map (λ group. group_named group l.book) (take l.name-index l.names)

use Rattle.std.proofs.Common.{◌≡◌, take}
use Rattle.std.specs.List.{AllByRecursion}
use Rattle.rv_book.specs.Registers.{groups_of}
use Rattle.rv_record.specs.CellReading.{GroupFits}
use Rattle.rv_state.proofs.state.State.page_groups.Given as goal

abbrev pub invariant-loop-index : goal.invariant-loop-index
invariant-loop-index l = record { so_far : l.groups ≡ take l.index (groups_of l.self-inside.book.book); fits : AllByRecursion GroupFits l.groups }

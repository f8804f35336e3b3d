use Rattle.std.proofs.Common.{drop, map}
use Rattle.rv_record.specs.CellTexts.{group_cell}
use Rattle.rv_book.specs.Registers.{groups_of}
use Rattle.rv_store.specs.StoreCells.{group_cells}
use Rattle.rv_store.proofs.FirstDifference.{Met}
use Rattle.rv_store.proofs.comparing.meet_groups.Given as goal

abbrev pub invariant-loop-index : goal.invariant-loop-index
invariant-loop-index l = record { met : Met (group_cells l.book.book) (map (λ g. group_cell g.0 g.1 g.2 g.3) (drop l.index (groups_of l.book.book))) l.loaded l.rest }

use Rattle.std.proofs.Common.{◌≡◌, ◌<◌, ◌≤◌}
use Rattle.std.specs.List.{AllByRecursion}
use Rattle.std.specs.Vec.Iter.{into_iter_items}
use Rattle.rv_chunks.specs.Chunking.{items}
use Rattle.rv_keeper.specs.Cells.{AreCells, change_shelf, changed}
use Rattle.rv_keeper.specs.Puts.{puts}
use Rattle.rv_keeper.proofs.changing.make_all.Given as goal

abbrev pub invariant-loop-change : goal.invariant-loop-change
invariant-loop-change l = record {
  order : AreCells (items l.cells.chunks);
  cells : changed (items l.cells.chunks) (into_iter_items l.change-iterator) ≡ changed (items l.initial.cells.chunks) (into_iter_items l.initial.change-iterator);
  shelves : AllByRecursion (λ change. 0 < change_shelf change) (into_iter_items l.change-iterator);
  spare : puts (into_iter_items l.change-iterator) ≤ l.cells.spare;
}

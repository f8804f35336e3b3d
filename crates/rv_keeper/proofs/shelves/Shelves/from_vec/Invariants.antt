use Rattle.std.proofs.Common.{◌≡◌, ◌<◌}
use Rattle.std.specs.List.{fold, AllByRecursion}
use Rattle.std.specs.Vec.Iter.{into_iter_items}
use Rattle.rv_base.specs.Sorted.{put_by}
use Rattle.rv_keeper.specs.Cells.{cell_key}
use Rattle.rv_keeper.proofs.shelves.Shelves.from_vec.Given as goal

abbrev pub invariant-loop-cell : goal.invariant-loop-cell
invariant-loop-cell l = record {
  cells : fold (λ cells cell. put_by cell_key cell cells) l.shelves (into_iter_items l.cell-iterator) ≡ l.fn.cells.items;
  shelves : AllByRecursion (λ cell. 0 < cell.shelf) (into_iter_items l.cell-iterator);
}

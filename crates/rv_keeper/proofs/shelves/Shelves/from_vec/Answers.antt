use Rattle.rv_base.specs.ArrangedLaws.{sorted-in_order}
use Rattle.rv_keeper.specs.Cells.{cell_key}
use Rattle.rv_keeper.proofs.shelves.Shelves.from_vec.Goals as goal

pub loop-cell-init : goal.loop-cell-init
loop-cell-init c =
    let given = c.into_iter-cell-iterator.ensures.into_iter_gives.0 in
    record {
      cells = rw (c.new-shelves.ensures, given) (sorted-in_order cell_key c.args.cells.items c.requires.order);
      shelves = rw given c.requires.shelves;
    }

use Rattle.std.proofs.Common.{◌≡◌, ◌-◌, drop}
use Rattle.rv_base.specs.Sorted.{is_in_order}
use Rattle.rv_keeper.specs.Cells.{cell_key}
use Rattle.rv_standby.proofs.following.are_in_order.Given as goal

abbrev pub invariant-loop-i : goal.invariant-loop-i
invariant-loop-i l = is_in_order cell_key l.cells ≡ is_in_order cell_key (drop (l.i - 1) l.cells)

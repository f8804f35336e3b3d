use Rattle.std.proofs.Common.{◌≡◌, take}
use Rattle.rv_base.specs.Sorted.{InOrder}
use Rattle.rv_rows.specs.Keys.{row_text, in_key_order}
use Rattle.rv_plain.proofs.rows.in_key_order.Given as goal

abbrev pub invariant-loop-row : goal.invariant-loop-row
invariant-loop-row l = (l.sorted.items ≡ in_key_order (take l.row-index l.rows)) × InOrder row_text l.sorted.items

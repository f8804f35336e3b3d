use Rattle.std.proofs.Common.{◌≡◌, take}
use Rattle.std.specs.List.{filter}
use Rattle.rv_rows.specs.Keys.{in_key_order}
use Rattle.rv_rows.specs.Sharing.{sees_row}
use Rattle.rv_plain.proofs.rows.seen.Given as goal

abbrev pub invariant-loop-row : goal.invariant-loop-row
invariant-loop-row l = (l.seen.items ≡ filter (sees_row l.user l.rows) (take l.row-index l.row-items)) × (l.row-items ≡ in_key_order l.rows)

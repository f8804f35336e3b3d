use Rattle.std.proofs.Common.{◌≡◌, take}
use Rattle.rv_rows.specs.Held.{rows_in}
use Rattle.rv_plain.proofs.copies.rows_in.Given as goal

abbrev pub invariant-loop-row : goal.invariant-loop-row
invariant-loop-row l = l.rows.items ≡ rows_in (take l.row-index l.stored)

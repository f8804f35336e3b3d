use Rattle.std.proofs.Common.{◌≡◌, drop}
use Rattle.rv_rows.specs.Held.{find}
use Rattle.rv_rows.specs.Keys.{row_text}
use Rattle.rv_plain.proofs.closing.find.Given as goal

abbrev pub invariant-loop-other : goal.invariant-loop-other
invariant-loop-other l = find (row_text l.row) (drop l.other-index l.stored) ≡ find (row_text l.row) l.stored

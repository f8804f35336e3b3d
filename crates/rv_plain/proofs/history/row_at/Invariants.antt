use Rattle.std.proofs.Common.{◌≡◌, drop}
use Rattle.rv_rows.specs.Keys.{key_text, row_at}
use Rattle.rv_plain.proofs.history.row_at.Given as goal

abbrev pub invariant-loop-row : goal.invariant-loop-row
invariant-loop-row l = row_at (key_text (record { kind = l.kind; id = l.id })) (drop l.row-index l.rows) ≡ row_at (key_text (record { kind = l.kind; id = l.id })) l.rows

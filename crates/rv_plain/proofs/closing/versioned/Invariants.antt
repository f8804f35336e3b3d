use Rattle.std.proofs.Common.{◌≡◌, map, take}
use Rattle.rv_rows.specs.Changes.{version_after}
use Rattle.rv_plain.proofs.closing.versioned.Given as goal

abbrev pub invariant-loop-row : goal.invariant-loop-row
invariant-loop-row l = l.versioned.items ≡ map (λ row. (row, version_after l.place l.stored row)) (take l.row-index l.rows)

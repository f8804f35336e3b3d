use Rattle.std.proofs.Common.{◌≡◌, take}
use Rattle.std.specs.Prelude.{fold}
use Rattle.rv_rows.specs.Effects.{greater_sort}
use Rattle.rv_plain.proofs.rows.greatest_sort.Given as goal

abbrev pub invariant-loop-row : goal.invariant-loop-row
invariant-loop-row l = l.most ≡ fold (greater_sort l.list) 0 (take l.row-index l.rows)

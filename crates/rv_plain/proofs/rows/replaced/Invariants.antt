use Rattle.std.proofs.Common.{◌≡◌, take}
use Rattle.std.specs.Prelude.{map}
use Rattle.rv_rows.specs.Effects.{replaced}
use Rattle.rv_plain.proofs.rows.replaced.Given as goal

abbrev pub invariant-loop-row : goal.invariant-loop-row
invariant-loop-row l = l.changed.items ≡ map (replaced l.new) (take l.row-index l.rows)

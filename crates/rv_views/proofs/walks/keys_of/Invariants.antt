use Rattle.std.proofs.Common.{◌≡◌, take, map}
use Rattle.rv_views.proofs.walks.keys_of.Given as goal

abbrev pub invariant-loop-row : goal.invariant-loop-row
invariant-loop-row l = l.keys ≡ map (λ pair. pair.0) (take l.row-index l.rows)

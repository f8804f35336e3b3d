use Rattle.std.proofs.Common.{◌≡◌, take}
use Rattle.rv_sharing.specs.Gathered.{keys_at}
use Rattle.rv_sharing.proofs.views.keys_of.Given as goal

abbrev pub invariant-loop-row : goal.invariant-loop-row
invariant-loop-row l = l.keys ≡ keys_at (take l.row-index l.rows)

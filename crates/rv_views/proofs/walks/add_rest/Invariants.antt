use Rattle.std.proofs.Common.{◌≡◌, ◌+◌, ◌++◌, take, map}
use Rattle.rv_views.proofs.walks.add_rest.Given as goal

abbrev pub invariant-loop-row : goal.invariant-loop-row
invariant-loop-row g l = record { keys : l.keys ≡ l.fn.keys ++ map (λ pair. pair.0) (take l.row-index l.rows); read : l.steps ≡ l.initial.steps + l.row-index }

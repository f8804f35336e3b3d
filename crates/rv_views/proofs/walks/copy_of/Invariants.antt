use Rattle.std.proofs.Common.{◌≡◌, take}
use Rattle.rv_views.proofs.walks.copy_of.Given as goal

abbrev pub invariant-loop-client : goal.invariant-loop-client
invariant-loop-client l = l.copy ≡ take l.client-index l.clients

use Rattle.std.proofs.Common.{◌≡◌, ◌+◌, length}
use Rattle.rv_views.specs.Viewed.{client_of_pair}
use Rattle.rv_views.specs.Walks.{rest_from}
use Rattle.rv_views.proofs.walks.clients_from.Given as goal

abbrev pub invariant-loop-first : goal.invariant-loop-first
invariant-loop-first g l = record {
  rest : rest_from client_of_pair l.id l.rest ≡ rest_from client_of_pair l.id l.clients;
  read : l.steps + length l.rest ≡ l.initial.steps + length l.clients;
}

abbrev pub decreases-loop-first : goal.decreases-loop-first
decreases-loop-first g l = length l.rest

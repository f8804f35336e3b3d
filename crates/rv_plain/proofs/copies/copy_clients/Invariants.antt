use Rattle.std.proofs.Common.{◌≡◌, take}
use Rattle.rv_plain.proofs.copies.copy_clients.Given as goal

abbrev pub invariant-loop-client : goal.invariant-loop-client
invariant-loop-client l = l.copies ≡ take l.client-index l.clients

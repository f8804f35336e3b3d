use Rattle.std.proofs.Common.{◌≡◌, ◌++◌, take}
use Rattle.rv_store.specs.ClosingChanges.{put_clients}
use Rattle.rv_store.proofs.closing.add_clients.Given as goal

abbrev pub invariant-loop-client : goal.invariant-loop-client
invariant-loop-client l = l.changes.items ≡ l.initial.changes.items ++ put_clients (take l.client-index l.clients)

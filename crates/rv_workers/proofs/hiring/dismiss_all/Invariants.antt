use Rattle.std.proofs.Common.{◌≡◌, ◌+◌, ◌≤◌, ◌++◌, vec_len}
use Rattle.std.specs.Prelude.{vec_capacity}
use Rattle.std.specs.List.{AllByRecursion}
use Rattle.rv_room.specs.Seats.{id_of, AllOf}
use Rattle.rv_workers.specs.Hiring.{reversed}
use Rattle.rv_workers.proofs.hiring.dismiss_all.Given as goal

abbrev pub invariant-loop-worker : goal.invariant-loop-worker
invariant-loop-worker g l = (l.seats.list.items ++ reversed (λ worker. worker.turns.seat) l.workers.items ≡ reversed (λ worker. worker.turns.seat) l.fn.workers.items)
    × (l.listeners.items ++ reversed (λ worker. worker.listener) l.workers.items ≡ reversed (λ worker. worker.listener) l.fn.workers.items)
    × (vec_len l.workers + vec_len l.seats.list ≤ vec_capacity l.seats.list)
    × (vec_len l.workers + vec_len l.listeners ≤ vec_capacity l.listeners)
    × AllByRecursion (λ worker. worker.turns.room.now ≡ l.room) l.workers.items
    × AllOf (id_of l.room) l.seats.list.items
    × (vec_capacity l.seats.list ≡ vec_capacity l.fn.seats.list)

abbrev pub decreases-loop-worker : goal.decreases-loop-worker
decreases-loop-worker g l = vec_len l.workers

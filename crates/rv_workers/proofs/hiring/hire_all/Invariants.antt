use Rattle.std.proofs.Common.{◌≡◌, ◌+◌, ◌≤◌, ◌++◌, vec_len}
use Rattle.std.specs.Prelude.{vec_capacity}
use Rattle.std.specs.List.{AllByRecursion}
use Rattle.rv_room.specs.Seats.{id_of, opened_of, view_of, AllNew}
use Rattle.rv_room.specs.Views.{newcomer}
use Rattle.rv_workers.specs.Hiring.{reversed}
use Rattle.rv_workers.proofs.hiring.hire_all.Given as goal

abbrev pub invariant-loop-listener : goal.invariant-loop-listener
invariant-loop-listener g l = (l.listeners.items ++ reversed (λ worker. worker.listener) l.workers.items ≡ l.fn.listeners.items)
    × AllNew (id_of l.room) (opened_of l.room) l.seats.list.items
    × (vec_len l.seats.list + vec_len l.fn.listeners ≡ vec_len l.fn.seats.list + vec_len l.listeners)
    × (vec_len l.workers + vec_len l.listeners ≤ vec_capacity l.workers)
    × (vec_capacity l.listeners ≡ vec_capacity l.fn.listeners)
    × (vec_capacity l.seats.list ≡ vec_capacity l.fn.seats.list)
    × AllByRecursion (λ worker. (worker.turns.room.now ≡ l.room) × (worker.accounts.now ≡ l.accounts) × (view_of worker.turns.seat ≡ newcomer 1 (opened_of l.room))) l.workers.items
    × (vec_len l.gates ≡ vec_len l.listeners)

abbrev pub decreases-loop-listener : goal.decreases-loop-listener
decreases-loop-listener g l = vec_len l.listeners

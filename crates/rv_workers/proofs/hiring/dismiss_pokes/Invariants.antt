use Rattle.std.proofs.Common.{◌≡◌, ◌+◌, ◌≤◌, ◌++◌, vec_len}
use Rattle.std.specs.Prelude.{vec_capacity}
use Rattle.std.specs.List.{AllByRecursion}
use Rattle.rv_room.specs.Seats.{id_of, AllOf}
use Rattle.rv_workers.specs.Hiring.{reversed}
use Rattle.rv_workers.proofs.hiring.dismiss_pokes.Given as goal

abbrev pub invariant-loop-job : goal.invariant-loop-job
invariant-loop-job g l = (l.seats.list.items ++ reversed (λ job. job.turns.seat) l.jobs.items ≡ l.fn.seats.list.items ++ reversed (λ job. job.turns.seat) l.fn.jobs.items)
    × (l.listeners.items ++ reversed (λ job. job.listener) l.jobs.items ≡ reversed (λ job. job.listener) l.fn.jobs.items)
    × (vec_len l.jobs + vec_len l.seats.list ≤ vec_capacity l.seats.list)
    × (vec_len l.jobs + vec_len l.listeners ≤ vec_capacity l.listeners)
    × AllByRecursion (λ job. job.turns.room.now ≡ l.room) l.jobs.items
    × AllOf (id_of l.room) l.seats.list.items

abbrev pub decreases-loop-job : goal.decreases-loop-job
decreases-loop-job g l = vec_len l.jobs

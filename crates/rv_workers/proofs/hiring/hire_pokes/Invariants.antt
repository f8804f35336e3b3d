use Rattle.std.proofs.Common.{◌≡◌, ◌+◌, ◌≤◌, ◌++◌, vec_len}
use Rattle.std.specs.Prelude.{vec_capacity}
use Rattle.std.specs.List.{AllByRecursion}
use Rattle.rv_poke.specs.Bells.{unasked}
use Rattle.rv_room.specs.Seats.{id_of, opened_of, view_of, AllNew}
use Rattle.rv_room.specs.Views.{newcomer}
use Rattle.rv_workers.specs.Hiring.{reversed}
use Rattle.rv_workers.proofs.hiring.hire_pokes.Given as goal

abbrev pub invariant-loop-listener : goal.invariant-loop-listener
invariant-loop-listener g l = (l.listeners.items ++ reversed (λ job. job.listener) l.jobs.items ≡ l.fn.listeners.items)
    × AllNew (id_of l.room) (opened_of l.room) l.seats.list.items
    × (vec_len l.seats.list ≡ vec_len l.listeners)
    × (vec_len l.jobs + vec_len l.listeners ≤ vec_capacity l.jobs)
    × (vec_capacity l.listeners ≡ vec_capacity l.fn.listeners)
    × (vec_capacity l.seats.list ≡ vec_capacity l.fn.seats.list)
    × AllByRecursion (λ job. (job.turns.room.now ≡ l.room) × (job.accounts.now ≡ l.accounts) × (view_of job.turns.seat ≡ newcomer 1 (opened_of l.room)) × (g.B.Bell.state job.bell ≡ unasked)) l.jobs.items
    × (vec_len l.bells ≡ vec_len l.listeners)
    × AllByRecursion (λ bell. g.B.Bell.state bell ≡ unasked) l.bells.items

abbrev pub decreases-loop-listener : goal.decreases-loop-listener
decreases-loop-listener g l = vec_len l.listeners

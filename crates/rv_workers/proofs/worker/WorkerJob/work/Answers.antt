use Rattle.std.proofs.Common.{◌≡◌, ◌+◌, ℕ, refl, ◌∙◌, arith}
use Rattle.rv_room.specs.declared.seat_turns.SeatTurns.{SeatTurns}
use Rattle.rv_room.specs.declared.view.SeatView.{SeatView}
use Rattle.rv_room.specs.SeatTurns.{IsSeatTurn, settled_by}
use Rattle.rv_room.specs.Seats.{view_of}
use Rattle.rv_serve.specs.TalkLaws.{past_shown}
use Rattle.rv_workers.proofs.Counted.{same_difference}
use Rattle.rv_workers.proofs.worker.WorkerJob.work.Goals as goal

pub returns : goal.returns
returns g c =
    let S : Type 0 = SeatTurns g.row.R.Denot g.row.K.Denot g.K.Keeper in
    let shown : S → SeatView g.row.K.Denot = λ t. view_of t.seat in
    let count : S → ℕ = λ t. t.settled in
    let Goes : S → S → Type 0 = λ s t. (t.room.now ≡ s.room.now) × (settled_by (shown t) + count s ≡ settled_by (shown s) + count t) in
    let all = past_shown shown Goes (λ s. (refl, refl)) (λ s t u p q. (q.0 ∙ p.0, omega (arith, p.1, q.1))) (IsSeatTurn g.K.Keeper) count settled_by
    (λ s t goes. same_difference (count s) (count t) (settled_by (shown s)) (settled_by (shown t)) goes.1) _ _ _ _ _ _ _ _ _ _ _ c.serve_listener.ensures.serves in
    (all.1.0, c.serve_listener.ensures.tells, c.serve_listener.ensures.ends, c.serve_listener.new.gate, all.0, c.leave.ensures)

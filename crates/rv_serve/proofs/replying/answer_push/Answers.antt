use Rattle.std.proofs.Common.{◌≡◌, ℕ, Bool, List, map, string_bytes, Ok, subst}
use Rattle.rv_wire.specs.Bodies.{Fails, push_body}
use Rattle.rv_serve.specs.Replies.{serves}
use Rattle.rv_serve.proofs.Asked.{same_serves, push_taken, push_refused}
use Rattle.rv_serve.proofs.replying.answer_push.Goals as goal

pub returns-in-Ok : goal.returns-in-Ok
returns-in-Ok g c =
    push_taken g.T.Turns.takes c.args.turns.now c.run_push.new.turns c.args.user.now c.in-Ok.push (push_body (serves (map string_bytes c.args.schemas.now)) c.args.body.now) c.run_push.result.answer c.run_push.result.acted
    (subst (λ (s : List ℕ → Bool). push_body s c.args.body.now ≡ Ok c.in-Ok.push) (same_serves c.args.schemas.now) c.in-Ok.ensures) c.run_push.ensures

pub returns-in-Err : goal.returns-in-Err
returns-in-Err g c =
    rw (c.without_act.ensures.answer, c.without_act.ensures.acted, c.refusal.ensures) (push_refused g.T.Turns.takes c.args.turns.now c.args.user.now c.in-Err.fault (push_body (serves (map string_bytes c.args.schemas.now)) c.args.body.now)
    (subst (λ (s : List ℕ → Bool). Fails c.in-Err.fault (push_body s c.args.body.now)) (same_serves c.args.schemas.now) c.in-Err.ensures))

use Rattle.std.proofs.Common.{◌≡◌, ℕ, Bool, false, List, map, string_bytes, Ok, subst}
use Rattle.rv_wire.specs.Bodies.{Fails, pull_body}
use Rattle.rv_serve.specs.Replies.{serves}
use Rattle.rv_serve.proofs.Asked.{same_serves, pull_taken, pull_refused}
use Rattle.rv_serve.proofs.replying.answer_pull.Goals as goal

pub returns-in-Ok : goal.returns-in-Ok
returns-in-Ok g c =
    pull_taken g.T.Turns.takes c.args.turns.now c.run_pull.new.turns c.args.user.now c.in-Ok.pull (pull_body (serves (map string_bytes c.args.schemas.now)) c.args.body.now) c.run_pull.result false
    (subst (λ (s : List ℕ → Bool). pull_body s c.args.body.now ≡ Ok c.in-Ok.pull) (same_serves c.args.schemas.now) c.in-Ok.ensures) c.run_pull.ensures

pub returns-in-Err : goal.returns-in-Err
returns-in-Err g c =
    rw c.refusal.ensures (pull_refused g.T.Turns.takes c.args.turns.now c.args.user.now c.in-Err.fault (pull_body (serves (map string_bytes c.args.schemas.now)) c.args.body.now)
    (subst (λ (s : List ℕ → Bool). Fails c.in-Err.fault (pull_body s c.args.body.now)) (same_serves c.args.schemas.now) c.in-Err.ensures))

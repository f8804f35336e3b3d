use Rattle.std.proofs.Common.{◌≡◌, take, drop, length, ◌++◌, ap, ◌∙◌, arith}
use Rattle.std.specs.Prelude.{min}
use Rattle.rv_http.specs.Numbers.{head_limit}
use Rattle.rv_http.proofs.Pendings.{written}
use Rattle.rv_http.proofs.Bodies.{body_taken, body_stops, same_error}
use Rattle.rv_http.proofs.body.read_body.Goals as goal

pub returns-in_err-fill_body-clause-bytes : goal.returns-in_err-fill_body-clause-bytes
returns-in_err-fill_body-clause-bytes g c =
    let (read, consumed, filled) = c.in_err-fill_body.ensures.bytes in
    let body = c.in_ok-body.body in
    let capacity : length body.items ≡ min c.args.size head_limit = omega (arith, c.in_ok-body.ensures.len, c.min.ensures) in
    let least : c.give-count.result ≡ min (length c.args.pending.now) (length body.items) = c.give-count.ensures.count ∙ ap (λ l. min (length c.args.pending.now) (length l)) c.deref_mut.ensures.value in
    let told = same_error c.from_residual-in_err-fill_body.result c.in_err-fill_body.field-0.0 c.from_residual-in_err-fill_body.ensures.0 c.from_residual-in_err-fill_body.ensures.1 in
    (read, consumed, rw told (body_stops c.args.pending.now c.give-count.new.self body.items c.fill_body.new.body.items read _ c.give-count.result c.args.size c.in_err-fill_body.field-0.0 filled c.give-count.ensures.few least capacity))

pub returns-clause-bytes : goal.returns-clause-bytes
returns-clause-bytes g c =
    let (read, consumed, filled) = c.in_ok-fill_body.ensures.bytes in
    let body = c.in_ok-body.body in
    let new = c.give-count.new.body in
    let long : length new ≡ length body.items = c.give-count.ensures.size ∙ ap length c.deref_mut.ensures.value in
    let same : take body.len (new ++ drop (length new) body.items) ≡ new = written new body.items body.len long (omega (arith, body.ok.0)) in
    let capacity : length new ≡ min c.args.size head_limit = omega (arith, long, c.in_ok-body.ensures.len, c.min.ensures) in
    let least : c.give-count.result ≡ min (length c.args.pending.now) (length new) = omega (arith, c.give-count.ensures.count, c.give-count.ensures.size) in
    let (size, is) = body_taken c.args.pending.now c.give-count.new.self new c.fill_body.new.body.items read c.give-count.result c.args.size c.give-count.ensures.bytes (rw same at filled.0) filled.1 c.give-count.ensures.few least capacity in
    (read, consumed, (rw c.from_vec.ensures size, rw c.from_vec.ensures is))

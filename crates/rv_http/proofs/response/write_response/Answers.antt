use Rattle.rv_base.specs.WritesLaws.{writes_cut, writes_then}
use Rattle.rv_http.specs.Responses.{response_head, sent_body, response_text}
use Rattle.rv_http.proofs.Responding.{failed_so}
use Rattle.rv_http.proofs.response.write_response.Goals as goal

pub returns-in_err-write_all-clause-writes : goal.returns-in_err-write_all-clause-writes
returns-in_err-write_all-clause-writes g c =
    let head = rw c.put_head-count.ensures.text at c.in_err-write_all.ensures.writes in
    failed_so {T = Unit {0}} _ _ c.in_err-write_all.field-0.0 c.from_residual.result (response_text c.args.response.now) c.from_residual.ensures.0 (writes_cut _ _ _ (response_head c.args.response.now) (sent_body c.args.response.now) head)

pub returns-in_err-write_body-clause-writes : goal.returns-in_err-write_body-clause-writes
returns-in_err-write_body-clause-writes g c =
    let head = rw c.put_head-count.ensures.text at c.in_ok-write_all.ensures.writes in
    failed_so {T = Unit {0}} _ _ c.in_err-write_body.field-0.0 c.from_residual-in_err-write_body.result (response_text c.args.response.now) c.from_residual-in_err-write_body.ensures.0 (writes_then _ _ _ _ _ (response_head c.args.response.now) (sent_body c.args.response.now) head c.in_err-write_body.ensures.writes)

use Rattle.rv_http.proofs.Settled.{one_refusal}
use Rattle.rv_http.proofs.laws.refusals_are_one.Goals as goal

pub returns : goal.returns
returns c = one_refusal

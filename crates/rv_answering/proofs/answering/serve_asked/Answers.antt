use Rattle.rv_answering.proofs.Served.{reading_handled}
use Rattle.rv_answering.proofs.answering.serve_asked.Goals as goal

pub returns-in-Ok : goal.returns-in-Ok
returns-in-Ok g c = λ parsed reading.
    reading_handled g.T.Turns.takes _ _ parsed c.in-Ok.request c.serve_request.result.answer c.serve_request.result.acted (rw c.in-Ok.is at reading) c.serve_request.ensures

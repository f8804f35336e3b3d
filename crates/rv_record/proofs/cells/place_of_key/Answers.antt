use Rattle.rv_record.proofs.PlaceDigits.{place_valid}
use Rattle.rv_record.proofs.cells.place_of_key.Goals as goal

pub returns-in-Err-clause-written : goal.returns-in-Err-clause-written
returns-in-Err-clause-written c = λ place fits is. absurd (c.in-Err.ensures.cases.0 (place_valid place c.args.key.now fits is))

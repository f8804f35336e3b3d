use Rattle.csv.specs.Records.{fields_of}
use Rattle.rv_csv.proofs.Orders.{cant_follow}
use Rattle.rv_csv.proofs.view_reading.row_after.Goals as goal

pub returns-else-may_follow-clause-none : goal.returns-else-may_follow-clause-none
returns-else-may_follow-clause-none c = λ view.
    let found = rw c.in-Some.is at c.in_ok-row.ensures.found in
    cant_follow c.args.rows.now c.in-Some.row (fields_of c.args.fields.now) c.may_follow.result view found.0 found.1 c.if-may_follow.false c.may_follow.ensures

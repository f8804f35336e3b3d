use Rattle.std.proofs.Common.{◌∙◌, ap}
use Rattle.std.specs.Ordering.{is_lt}
use Rattle.rv_csv.proofs.Orders.{follows}
use Rattle.rv_csv.proofs.view_reading.may_follow.Goals as goal

pub returns-in-Some : goal.returns-in-Some
returns-in-Some c = follows c.args.rows.now _ c.in-Some.last.now c.args.row.now _ c.in-Some.ensures.cases.0 (c.is_lt.ensures ∙ ap is_lt c.compare.ensures)

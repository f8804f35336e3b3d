use Rattle.rv_standby.proofs.Shipped.{line_some, none_fails}
use Rattle.rv_standby.proofs.shipping.ship_cell.Goals as goal

pub returns-in_err-line-clause-ships : goal.returns-in_err-line-clause-ships
returns-in_err-line-clause-ships g c = none_fails _ _ _ c.from_residual.ensures.1 (line_some c.args.cell.now)

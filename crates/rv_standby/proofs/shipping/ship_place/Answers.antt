use Rattle.rv_record.specs.CellTexts.{page_cell}
use Rattle.rv_standby.proofs.Shipped.{line_some, none_fails}
use Rattle.rv_standby.proofs.shipping.ship_place.Goals as goal

pub returns-in_err-cell-clause-ships : goal.returns-in_err-cell-clause-ships
returns-in_err-cell-clause-ships g c = none_fails _ _ _ c.from_residual.ensures.1 (line_some (page_cell c.args.place))

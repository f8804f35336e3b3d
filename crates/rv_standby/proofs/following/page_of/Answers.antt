use Rattle.std.proofs.Common.{sym, ◌∙◌}
use Rattle.rv_base.specs.RisingLaws.{in_order-from_test}
use Rattle.rv_keeper.specs.Cells.{cell_key}
use Rattle.rv_standby.proofs.PagesRead.{not_in_order, page_fails}
use Rattle.rv_standby.proofs.following.page_of.Goals as goal

pub returns-then-not-are_in_order-clause-page : goal.returns-then-not-are_in_order-clause-page
returns-then-not-are_in_order-clause-page c = not_in_order c.args.limit c.args.cells.now c.are_in_order.result c.are_in_order.ensures c.if-not-are_in_order.true

pub read_page-requires : goal.read_page-requires
read_page-requires c = in_order-from_test cell_key c.args.cells.now (sym c.are_in_order.ensures ∙ c.if-not-are_in_order.false)

pub returns-in_err-read-clause-page : goal.returns-in_err-read-clause-page
returns-in_err-read-clause-page c = page_fails c.args.limit c.args.cells.now c.in_err-read.field-0.0 c.from_residual.result c.ranges.limit.fits c.in_err-read.ensures c.from_residual.ensures.1

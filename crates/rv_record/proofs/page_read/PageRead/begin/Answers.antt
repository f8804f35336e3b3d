use Rattle.std.proofs.Common.{◌∙◌, ap, sym, arith}
use Rattle.rv_record.specs.CellTexts.{page_cell}
use Rattle.rv_record.proofs.Ended.{begun, first_unread, first_outside}
use Rattle.rv_record.proofs.page_read.PageRead.begin.Goals as goal

pub returns-in_err-at : goal.returns-in_err-at
returns-in_err-at c = λ cells order. first_unread c.args.limit cells c.args.cell.now _ _ (omega (arith, c.ranges.limit.fits)) c.from_residual.ensures.1 c.in_err-at.ensures

pub returns-then-not-is_within : goal.returns-then-not-is_within
returns-then-not-is_within c = λ cells order.
    first_outside c.args.limit cells c.args.cell.now c.from.result _ _ (omega (arith, c.ranges.limit.fits)) (omega (arith, c.from.ensures, c.place_fits.ensures))
    (c.in_ok-at.ensures ∙ ap page_cell (sym c.from.ensures)) c.is_within.ensures c.if-not-is_within.true c.damaged.ensures

pub returns : goal.returns
returns c = λ cells order.
    let within = c.is_within.ensures.0 c.if-not-is_within.false in
    begun c.args.limit cells c.args.cell.now (record { page = record { at = c.in_ok-at.at; rows = c.new.result; clients = c.new-2.result; groups = c.new-3.result }; tables = c.new-4.result })
    (omega (arith, c.ranges.limit.fits)) order (omega (arith, within.0, c.from.ensures)) (omega (arith, within.1, c.from.ensures)) (λ i. record { at = c.in_ok-at.at; rows = c.new.ensures i; clients = c.new-2.ensures i; groups = c.new-3.ensures i }) c.new-4.ensures c.in_ok-at.ensures

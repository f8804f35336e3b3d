use Rattle.std.proofs.Common.{arith}
use Rattle.rv_record.specs.PageCells.{row_parts}
use Rattle.rv_record.specs.CellTexts.{page_row_cell}
use Rattle.rv_standby.proofs.Shipped.{all_shipped, all_texts, fails_steadily, line_fails, none_shipped, one_shipped, one_text, piece_at, pieces_end}
use Rattle.rv_standby.proofs.shipping.ship_rows.Goals as goal

pub loop-row-init : goal.loop-row-init
loop-row-init g c = record { so = none_shipped (row_parts c.args.rows.now) (g.O.Sink.state c.args.out.now); texts = tt; steady = λ s. s }

pub returns-in_err-ship_row-clause-ships : goal.returns-in_err-ship_row-clause-ships
returns-in_err-ship_row-clause-ships g c =
    let (below, is) = piece_at (λ s. page_row_cell s.0 s.1) c.args.rows.now c.loop-row.row-index c.loop-row-item.result c.loop-row-test.true c.loop-row-item.is in
    line_fails (row_parts c.args.rows.now) _ _ _ _ _ _ _ c.from_residual.ensures.1 below is c.loop-row.invariant.so c.in_err-ship_row.ensures.ships

pub returns-in_err-ship_row-clause-steady : goal.returns-in_err-ship_row-clause-steady
returns-in_err-ship_row-clause-steady g c = λ steady. fails_steadily _ _ _ _ _ _ _ c.from_residual.ensures.1 c.loop-row.invariant.so (c.in_err-ship_row.ensures.steady (c.loop-row.invariant.steady steady))

pub loop-row-preserved : goal.loop-row-preserved
loop-row-preserved g c =
    let (below, is) = piece_at (λ s. page_row_cell s.0 s.1) c.args.rows.now c.loop-row.row-index c.loop-row-item.result c.loop-row-test.true c.loop-row-item.is in
    record {
      so = one_shipped (row_parts c.args.rows.now) _ _ _ _ _ below is c.loop-row.invariant.so c.in_ok-ship_row.ensures.ships;
      texts = one_text (row_parts c.args.rows.now) _ _ below is c.loop-row.invariant.texts c.in_ok-ship_row.ensures.texts;
      steady = λ steady. (c.in_ok-ship_row.ensures.steady (c.loop-row.invariant.steady steady)).goes_on;
    }

pub returns-clause-ships : goal.returns-clause-ships
returns-clause-ships g c = all_shipped (row_parts c.args.rows.now) _ _ _ (pieces_end (λ s. page_row_cell s.0 s.1) c.args.rows.now c.loop-row.row-index (omega (arith, c.loop-row-test.false, c.loop-row.auto.row-index-end))) c.loop-row.invariant.so

pub returns-clause-texts : goal.returns-clause-texts
returns-clause-texts g c = all_texts (row_parts c.args.rows.now) _ (pieces_end (λ s. page_row_cell s.0 s.1) c.args.rows.now c.loop-row.row-index (omega (arith, c.loop-row-test.false, c.loop-row.auto.row-index-end))) c.loop-row.invariant.texts

pub returns-clause-steady : goal.returns-clause-steady
returns-clause-steady g c = λ steady. record { goes_on = c.loop-row.invariant.steady steady; only_memory = λ is. absurd (cc) }

use Rattle.std.proofs.Common.{arith}
use Rattle.rv_record.specs.PageCells.{client_parts}
use Rattle.rv_record.specs.CellTexts.{page_client_cell}
use Rattle.rv_standby.proofs.Shipped.{all_shipped, all_texts, fails_steadily, line_fails, none_shipped, one_shipped, one_text, piece_at, pieces_end}
use Rattle.rv_standby.proofs.shipping.ship_clients.Goals as goal

pub loop-client-init : goal.loop-client-init
loop-client-init g c = record { so = none_shipped (client_parts c.args.clients.now) (g.O.Sink.state c.args.out.now); texts = tt; steady = λ s. s }

pub returns-in_err-ship_client-clause-ships : goal.returns-in_err-ship_client-clause-ships
returns-in_err-ship_client-clause-ships g c =
    let (below, is) = piece_at (λ s. page_client_cell s.0 s.1 s.2) c.args.clients.now c.loop-client.client-index c.loop-client-item.result c.loop-client-test.true c.loop-client-item.is in
    line_fails (client_parts c.args.clients.now) _ _ _ _ _ _ _ c.from_residual.ensures.1 below is c.loop-client.invariant.so c.in_err-ship_client.ensures.ships

pub returns-in_err-ship_client-clause-steady : goal.returns-in_err-ship_client-clause-steady
returns-in_err-ship_client-clause-steady g c = λ steady. fails_steadily _ _ _ _ _ _ _ c.from_residual.ensures.1 c.loop-client.invariant.so (c.in_err-ship_client.ensures.steady (c.loop-client.invariant.steady steady))

pub loop-client-preserved : goal.loop-client-preserved
loop-client-preserved g c =
    let (below, is) = piece_at (λ s. page_client_cell s.0 s.1 s.2) c.args.clients.now c.loop-client.client-index c.loop-client-item.result c.loop-client-test.true c.loop-client-item.is in
    record {
      so = one_shipped (client_parts c.args.clients.now) _ _ _ _ _ below is c.loop-client.invariant.so c.in_ok-ship_client.ensures.ships;
      texts = one_text (client_parts c.args.clients.now) _ _ below is c.loop-client.invariant.texts c.in_ok-ship_client.ensures.texts;
      steady = λ steady. (c.in_ok-ship_client.ensures.steady (c.loop-client.invariant.steady steady)).goes_on;
    }

pub returns-clause-ships : goal.returns-clause-ships
returns-clause-ships g c = all_shipped (client_parts c.args.clients.now) _ _ _ (pieces_end (λ s. page_client_cell s.0 s.1 s.2) c.args.clients.now c.loop-client.client-index (omega (arith, c.loop-client-test.false, c.loop-client.auto.client-index-end))) c.loop-client.invariant.so

pub returns-clause-texts : goal.returns-clause-texts
returns-clause-texts g c = all_texts (client_parts c.args.clients.now) _ (pieces_end (λ s. page_client_cell s.0 s.1 s.2) c.args.clients.now c.loop-client.client-index (omega (arith, c.loop-client-test.false, c.loop-client.auto.client-index-end))) c.loop-client.invariant.texts

pub returns-clause-steady : goal.returns-clause-steady
returns-clause-steady g c = λ steady. record { goes_on = c.loop-client.invariant.steady steady; only_memory = λ is. absurd (cc) }

use Rattle.std.proofs.Common.{arith}
use Rattle.rv_record.specs.PageCells.{group_parts}
use Rattle.rv_record.specs.CellTexts.{page_group_cell}
use Rattle.rv_standby.proofs.Shipped.{all_shipped, all_texts, fails_steadily, line_fails, none_shipped, one_shipped, one_text, piece_at, pieces_end}
use Rattle.rv_standby.proofs.shipping.ship_groups.Goals as goal

pub loop-group-init : goal.loop-group-init
loop-group-init g c = record { so = none_shipped (group_parts c.args.groups.now) (g.O.Sink.state c.args.out.now); texts = tt; steady = λ s. s }

pub returns-in_err-ship_group-clause-ships : goal.returns-in_err-ship_group-clause-ships
returns-in_err-ship_group-clause-ships g c =
    let (below, is) = piece_at (λ s. page_group_cell s.0 s.1 s.2 s.3) c.args.groups.now c.loop-group.group-index c.loop-group-item.result c.loop-group-test.true c.loop-group-item.is in
    line_fails (group_parts c.args.groups.now) _ _ _ _ _ _ _ c.from_residual.ensures.1 below is c.loop-group.invariant.so c.in_err-ship_group.ensures.ships

pub returns-in_err-ship_group-clause-steady : goal.returns-in_err-ship_group-clause-steady
returns-in_err-ship_group-clause-steady g c = λ steady. fails_steadily _ _ _ _ _ _ _ c.from_residual.ensures.1 c.loop-group.invariant.so (c.in_err-ship_group.ensures.steady (c.loop-group.invariant.steady steady))

pub loop-group-preserved : goal.loop-group-preserved
loop-group-preserved g c =
    let (below, is) = piece_at (λ s. page_group_cell s.0 s.1 s.2 s.3) c.args.groups.now c.loop-group.group-index c.loop-group-item.result c.loop-group-test.true c.loop-group-item.is in
    record {
      so = one_shipped (group_parts c.args.groups.now) _ _ _ _ _ below is c.loop-group.invariant.so c.in_ok-ship_group.ensures.ships;
      texts = one_text (group_parts c.args.groups.now) _ _ below is c.loop-group.invariant.texts c.in_ok-ship_group.ensures.texts;
      steady = λ steady. (c.in_ok-ship_group.ensures.steady (c.loop-group.invariant.steady steady)).goes_on;
    }

pub returns-clause-ships : goal.returns-clause-ships
returns-clause-ships g c = all_shipped (group_parts c.args.groups.now) _ _ _ (pieces_end (λ s. page_group_cell s.0 s.1 s.2 s.3) c.args.groups.now c.loop-group.group-index (omega (arith, c.loop-group-test.false, c.loop-group.auto.group-index-end))) c.loop-group.invariant.so

pub returns-clause-texts : goal.returns-clause-texts
returns-clause-texts g c = all_texts (group_parts c.args.groups.now) _ (pieces_end (λ s. page_group_cell s.0 s.1 s.2 s.3) c.args.groups.now c.loop-group.group-index (omega (arith, c.loop-group-test.false, c.loop-group.auto.group-index-end))) c.loop-group.invariant.texts

pub returns-clause-steady : goal.returns-clause-steady
returns-clause-steady g c = λ steady. record { goes_on = c.loop-group.invariant.steady steady; only_memory = λ is. absurd (cc) }

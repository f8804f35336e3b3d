use Rattle.rv_record.specs.CellTexts.{view_cell}
use Rattle.rv_store.proofs.Comparisons.{each_more, each_fails, left_at}
use Rattle.rv_store.proofs.comparing.meet_records.Goals as goal

pub returns-in_err-rest : goal.returns-in_err-rest
returns-in_err-rest c =
    each_fails (λ r. view_cell r.0 r.1) _ _ _ _ _ _ _ _ _ _ c.from_residual-in_err-rest.ensures.1 (left_at _ _ _ c.loop-place-test.true c.loop-place-item.is) c.in_ok-own.ensures.cell c.in_err-rest.ensures c.loop-place.invariant.met

pub loop-place-preserved : goal.loop-place-preserved
loop-place-preserved c = record {
  met = each_more (λ r. view_cell r.0 r.1) _ _ _ _ _ _ _ _ (left_at _ _ _ c.loop-place-test.true c.loop-place-item.is) c.in_ok-own.ensures.cell c.in_ok-rest.ensures c.loop-place.invariant.met;
}

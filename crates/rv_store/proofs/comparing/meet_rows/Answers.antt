use Rattle.rv_record.specs.CellTexts.{row_cell}
use Rattle.rv_store.proofs.Comparisons.{each_more, each_fails}
use Rattle.rv_store.proofs.comparing.meet_rows.Goals as goal

pub returns-in_err-rest : goal.returns-in_err-rest
returns-in_err-rest c = each_fails (λ s. row_cell s.0 s.1) _ _ _ _ _ _ _ _ _ _ c.from_residual-in_err-rest.ensures.1 c.in-Some.ensures.steps c.in_ok-own.ensures.cell c.in_err-rest.ensures c.loop-row.invariant.met

pub loop-row-preserved : goal.loop-row-preserved
loop-row-preserved c = record {
  can_next = tt;
  is_finite = tt;
  met = each_more (λ s. row_cell s.0 s.1) _ _ _ _ _ _ _ _ c.in-Some.ensures.steps c.in_ok-own.ensures.cell c.in_ok-rest.ensures c.loop-row.invariant.met;
}

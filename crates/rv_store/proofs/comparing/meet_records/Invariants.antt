use Rattle.std.proofs.Common.{drop}
use Rattle.rv_store.specs.StoreCells.{view_cells}
use Rattle.rv_store.proofs.FirstDifference.{Met}
use Rattle.rv_store.proofs.comparing.meet_records.Given as goal

abbrev pub invariant-loop-place : goal.invariant-loop-place
invariant-loop-place l = record { met : Met (view_cells l.records) (view_cells (drop l.place-index l.records)) l.loaded l.rest }

use Rattle.rv_record.proofs.Ended.{ReadTo}
use Rattle.rv_record.proofs.opening.read_page.Given as goal

abbrev pub invariant-loop-cell : goal.invariant-loop-cell
invariant-loop-cell l = record { so_far : ReadTo l.limit l.cells l.rest l.cell-index l.read }

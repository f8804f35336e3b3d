use Rattle.std.proofs.Common.{arith, sym}
use Rattle.rv_sqlite.proofs.Ordered.{one_more}
use Rattle.rv_sqlite.proofs.reading.may_end.Goals as goal

-- The cell is above the last one, and so above all.
pub returns-in-Less : goal.returns-in-Less
returns-in-Less c t = one_more c.args.cells.now c.in-Some.last.now c.args.cell.now c.requires (sym c.in-Some.ensures.value) (sym c.in-Less.ensures) (grind arith)

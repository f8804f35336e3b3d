use Rattle.std.proofs.Common.{take}
use Rattle.std.specs.List.{AllByRecursion}
use Rattle.rv_record.specs.PageCells.{row_parts}
use Rattle.rv_record.specs.CellTexts.{AreTexts}
use Rattle.rv_standby.proofs.Shipped.{Shipped}
use Rattle.rv_standby.proofs.shipping.ship_rows.Given as goal

abbrev pub invariant-loop-row : goal.invariant-loop-row
invariant-loop-row g l = record {
  so : Shipped (row_parts l.rows) (g.O.Sink.state l.initial.out) l.row-index (g.O.Sink.state l.out);
  texts : AllByRecursion AreTexts (take l.row-index (row_parts l.rows));
  steady : g.O.Sink.fails_no_more l.initial.out → g.O.Sink.fails_no_more l.out;
}

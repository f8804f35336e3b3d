use Rattle.std.proofs.Common.{take}
use Rattle.std.specs.List.{AllByRecursion}
use Rattle.rv_record.specs.PageCells.{group_parts}
use Rattle.rv_record.specs.CellTexts.{AreTexts}
use Rattle.rv_standby.proofs.Shipped.{Shipped}
use Rattle.rv_standby.proofs.shipping.ship_groups.Given as goal

abbrev pub invariant-loop-group : goal.invariant-loop-group
invariant-loop-group g l = record {
  so : Shipped (group_parts l.groups) (g.O.Sink.state l.initial.out) l.group-index (g.O.Sink.state l.out);
  texts : AllByRecursion AreTexts (take l.group-index (group_parts l.groups));
  steady : g.O.Sink.fails_no_more l.initial.out → g.O.Sink.fails_no_more l.out;
}

use Rattle.std.proofs.Common.{take}
use Rattle.std.specs.List.{AllByRecursion}
use Rattle.rv_record.specs.PageCells.{client_parts}
use Rattle.rv_record.specs.CellTexts.{AreTexts}
use Rattle.rv_standby.proofs.Shipped.{Shipped}
use Rattle.rv_standby.proofs.shipping.ship_clients.Given as goal

abbrev pub invariant-loop-client : goal.invariant-loop-client
invariant-loop-client g l = record {
  so : Shipped (client_parts l.clients) (g.O.Sink.state l.initial.out) l.client-index (g.O.Sink.state l.out);
  texts : AllByRecursion AreTexts (take l.client-index (client_parts l.clients));
  steady : g.O.Sink.fails_no_more l.initial.out → g.O.Sink.fails_no_more l.out;
}

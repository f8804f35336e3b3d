use Rattle.std.proofs.Common.{◌+◌, ◌-◌, ◌≤◌, take}
use Rattle.std.specs.List.{AllByRecursion}
use Rattle.rv_record.specs.CellTexts.{AreTexts}
use Rattle.rv_store.specs.StoreCells.{entry_cells}
use Rattle.rv_standby.proofs.Shipped.{Shipped}
use Rattle.rv_standby.proofs.shipping.ship_entries.Given as goal

abbrev pub invariant-loop-before : goal.invariant-loop-before
invariant-loop-before g l = record {
  so : Shipped (entry_cells (l.book.book.page.at + 1) l.book.book.entries) (g.O.Sink.state l.initial.out) (l.before - l.book.book.page.at) (g.O.Sink.state l.out);
  texts : AllByRecursion AreTexts (take (l.before - l.book.book.page.at) (entry_cells (l.book.book.page.at + 1) l.book.book.entries));
  from : l.book.book.page.at ≤ l.before;
  steady : g.O.Sink.fails_no_more l.initial.out → g.O.Sink.fails_no_more l.out;
}

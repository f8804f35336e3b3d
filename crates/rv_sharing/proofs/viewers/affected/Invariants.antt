use Rattle.std.proofs.Common.{take}
use Rattle.rv_rows.specs.Held.{rows_in}
use Rattle.rv_sharing.specs.Opened.{AreListsOf}
use Rattle.rv_sharing.proofs.ViewerLaws.{Viewing}
use Rattle.rv_sharing.proofs.viewers.affected.Given as goal

abbrev pub invariant-loop-list : goal.invariant-loop-list
invariant-loop-list l = record {
  lists : AreListsOf (rows_in l.tables.rows) l.keys l.list-items;
  viewing : Viewing (rows_in l.tables.rows) l.keys (take l.list-index l.list-items) l.users;
}

use Rattle.std.proofs.Common.{take}
use Rattle.rv_rows.specs.Held.{rows_in}
use Rattle.rv_sharing.specs.Opened.{AreAmong}
use Rattle.rv_sharing.proofs.views.lists_among.Given as goal

abbrev pub invariant-loop-list : goal.invariant-loop-list
invariant-loop-list l = AreAmong l.user (rows_in l.tables.rows) (take l.list-index l.named) l.lists.items

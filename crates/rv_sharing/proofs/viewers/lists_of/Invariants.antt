use Rattle.std.proofs.Common.{take}
use Rattle.rv_rows.specs.Held.{rows_in}
use Rattle.rv_sharing.specs.Opened.{AreListsOf}
use Rattle.rv_sharing.proofs.viewers.lists_of.Given as goal

abbrev pub invariant-loop-key : goal.invariant-loop-key
invariant-loop-key l = AreListsOf (rows_in l.tables.rows) (take l.key-index l.keys) l.lists.items

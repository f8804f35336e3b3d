use Rattle.std.proofs.Common.{take}
use Rattle.rv_rows.specs.Held.{rows_in}
use Rattle.rv_sharing.specs.Opened.{AreUsersOf}
use Rattle.rv_sharing.proofs.viewers.users_of.Given as goal

abbrev pub invariant-loop-key : goal.invariant-loop-key
invariant-loop-key l = AreUsersOf (rows_in l.tables.rows) (take l.key-index l.keys) l.users.items

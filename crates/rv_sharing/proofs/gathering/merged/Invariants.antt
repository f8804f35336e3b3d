use Rattle.std.proofs.Common.{◌+◌, ◌-◌, length}
use Rattle.rv_sharing.proofs.GatheredLaws.{Merging}
use Rattle.rv_sharing.proofs.gathering.merged.Given as goal

abbrev pub invariant-loop-i : goal.invariant-loop-i
invariant-loop-i l = Merging l.left l.right l.i l.j l.rows.items

abbrev pub decreases-loop-i : goal.decreases-loop-i
decreases-loop-i l = (length l.left - l.i) + (length l.right - l.j)

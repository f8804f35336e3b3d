use Rattle.std.proofs.Common.{length}
use Rattle.rv_import.proofs.Takings.{IsMidway}
use Rattle.rv_import.proofs.taking.take_each.Given as goal

abbrev pub invariant-loop-mutation : goal.invariant-loop-mutation
invariant-loop-mutation g l = IsMidway g.T.Turns.takes (record { user = l.user; group = l.group }) l.fn.records l.fn.turns l.records l.counts l.turns

abbrev pub decreases-loop-mutation : goal.decreases-loop-mutation
decreases-loop-mutation g l = length l.records.mutations

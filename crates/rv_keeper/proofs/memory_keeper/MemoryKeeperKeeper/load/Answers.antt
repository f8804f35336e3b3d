use Rattle.std.proofs.Common.{sym, ◌∙◌}
use Rattle.rv_keeper.proofs.Schedule.{next_load, both_so, not_failed}
use Rattle.rv_keeper.proofs.memory_keeper.MemoryKeeperKeeper.load.Goals as goal

pub returns-then-fails_at-clause-steady : goal.returns-then-fails_at-clause-steady
returns-then-fails_at-clause-steady c = λ all.
    both_so (rw (c.saturating_add-self.ensures, c.deref.ensures.value) at (sym c.fails_at.ensures ∙ c.if-fails_at.true)) (next_load _ _ _ _ all).0

pub returns-in_err-cells-clause-steady : goal.returns-in_err-cells-clause-steady
returns-in_err-cells-clause-steady c = λ all. rw c.saturating_add-self.ensures (record { goes_on = (next_load _ _ _ _ all).1; no_fault = not_failed _ c.from_residual.ensures })

pub returns-clause-steady : goal.returns-clause-steady
returns-clause-steady c = λ all. rw c.saturating_add-self.ensures (record { goes_on = (next_load _ _ _ _ all).1; no_fault = λ h. absurd (cc) })

use Rattle.std.proofs.Common.{sym, ◌∙◌}
use Rattle.rv_keeper.proofs.Schedule.{next_commit, both_so, not_failed}
use Rattle.rv_keeper.proofs.memory_keeper.MemoryKeeperKeeper.commit.Goals as goal

pub returns-then-fails_at-clause-steady : goal.returns-then-fails_at-clause-steady
returns-then-fails_at-clause-steady c = λ all.
    both_so (rw (c.saturating_add-self.ensures, c.deref.ensures.value) at (sym c.fails_at.ensures ∙ c.if-fails_at.true)) (next_commit _ _ _ _ all).0

pub returns-in_err-make-clause-steady : goal.returns-in_err-make-clause-steady
returns-in_err-make-clause-steady c = λ all. rw (c.make.ensures.rest, c.saturating_add-self.ensures) (record { goes_on = (next_commit _ _ _ _ all).2; no_fault = not_failed _ c.from_residual.ensures })

pub returns-then-fails_at-2-clause-steady : goal.returns-then-fails_at-2-clause-steady
returns-then-fails_at-2-clause-steady c = λ all. rw (c.saturating_add-self.ensures) (record { goes_on = (next_commit _ _ _ _ all).2; no_fault = λ h. absurd (cc) })

pub returns-then-fails_at-3-clause-steady : goal.returns-then-fails_at-3-clause-steady
returns-then-fails_at-3-clause-steady c = λ all.
    both_so (rw (c.deref-3.ensures.value, c.make.ensures.rest, c.saturating_add-self.ensures) at (sym c.fails_at-3.ensures ∙ c.if-fails_at-3.true)) (next_commit _ _ _ _ all).1

pub returns-clause-steady : goal.returns-clause-steady
returns-clause-steady c = λ all. rw (c.make.ensures.rest, c.saturating_add-self.ensures) (record { goes_on = (next_commit _ _ _ _ all).2; no_fault = λ h. absurd (cc) })

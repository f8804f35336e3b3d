use Rattle.std.proofs.Common.{refl, sym, ◌∙◌}
use Rattle.rv_keeper.proofs.Schedule.{next_question, both_so}
use Rattle.rv_keeper.proofs.memory_keeper.MemoryKeeperKeeper.generation.Goals.{then-self-from+then-self-from-2, else-self-from}
use Rattle.rv_keeper.proofs.memory_keeper.MemoryKeeperKeeper.generation.Goals as goal

pub returns-then-fails_at-clause-steady : goal.returns-then-fails_at-clause-steady
returns-then-fails_at-clause-steady c = λ all.
    both_so (rw (c.saturating_add-self.ensures, c.deref.ensures.value) at (sym c.fails_at.ensures ∙ c.if-fails_at.true)) (next_question _ _ _ _ all).0

pub returns-clause-steady : goal.returns-clause-steady
returns-clause-steady c = λ all.
    let next = (next_question _ _ _ _ all).1 in
    elim c.if-self-from.branch [
      | then-self-from+then-self-from-2 w ↦ rw (w.self-is, w.count_fault-then-self-from-2.ensures.after, c.saturating_add-self.ensures) (next, refl)
      | else-self-from w ↦ rw (w.self-is, c.saturating_add-self.ensures) (next, refl)
    ]

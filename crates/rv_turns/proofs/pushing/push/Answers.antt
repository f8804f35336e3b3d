use Rattle.std.proofs.Common.{None, false, ◌∙◌, sym}
use Rattle.std.proofs.Math.Bool.{or_assoc}
use Rattle.rv_turns.proofs.Pushes.{or_false, push_goes, push_stops, push_same, push_acted, push_ends}
use Rattle.rv_turns.proofs.pushing.push.Goals as goal

pub loop-mutation-init : goal.loop-mutation-init
loop-mutation-init g c = λ answer later new. push_same g.T.Turns.takes _ _ _ _ _ _ _ (c.into_iter-mutation-iterator.ensures.into_iter_gives.0 ∙ c.into_vec-mutation-items.ensures)

pub returns-in-Some-refusal : goal.returns-in-Some-refusal
returns-in-Some-refusal g c = c.loop-mutation.invariant _ _ _ (rw c.in-Some.ensures.steps.0 (push_stops g.T.Turns.takes _ _ _ _ _ _ _ _ c.in-Some-refusal.is c.run-ran.ensures))

pub loop-mutation-preserved : goal.loop-mutation-preserved
loop-mutation-preserved g c = λ answer later new goes.
    push_acted g.T.Turns.takes _ _ _ _ _ _ _ (sym (or_assoc c.loop-mutation.acted c.run-ran.result.acted later))
    (c.loop-mutation.invariant answer _ new (rw c.in-Some.ensures.steps.0 (push_goes g.T.Turns.takes _ _ _ _ _ _ _ _ _ _ c.in_default.is c.run-ran.ensures goes)))

pub returns : goal.returns
returns g c =
    push_acted g.T.Turns.takes _ _ _ _ _ _ _ (or_false c.loop-mutation.acted)
    (c.loop-mutation.invariant None false _ (push_ends g.T.Turns.takes _ _ _ (sym c.loop-mutation.mutation-iterator.rest.ok.0 ∙ c.in-None.ensures.steps.0)))

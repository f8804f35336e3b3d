use Rattle.std.specs.Prelude.{Bool, ◌||◌}
use Rattle.std.specs.Vec.Iter.{into_iter_items}
use Rattle.std.specs.declared.option.Option.{Option}
use Rattle.rv_turns.specs.declared.refusal.Refusal.{Refusal}
use Rattle.rv_turns.specs.Pushing.{Pushes}
use Rattle.rv_turns.proofs.pushing.push.Given as goal

-- how the mutations that are left end is how all of them do
abbrev pub invariant-loop-mutation : goal.invariant-loop-mutation
invariant-loop-mutation g l =
    (answer : Option Refusal) (later : Bool) (new : _) → Pushes g.T.Turns.takes (record { user = l.user; group = l.group }) (into_iter_items l.mutation-iterator) l.turns answer later new
    → Pushes g.T.Turns.takes (record { user = l.user; group = l.group }) l.fn.mutations l.fn.turns answer (l.acted || later) new

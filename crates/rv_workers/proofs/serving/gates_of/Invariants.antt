use Rattle.std.proofs.Common.{◌≡◌, ◌≤◌, vec_len}
use Rattle.std.specs.Prelude.{vec_capacity}
use Rattle.rv_workers.proofs.serving.gates_of.Given as goal

abbrev pub invariant-loop-taken : goal.invariant-loop-taken
invariant-loop-taken g l = (vec_len l.gates ≡ l.taken) × (l.count ≤ vec_capacity l.gates)

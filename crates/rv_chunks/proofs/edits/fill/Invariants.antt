use Rattle.std.proofs.Common.{◌≡◌, ◌≤◌, vec_len, vec_capacity}
use Rattle.rv_chunks.specs.Vectors.{AreFresh}
use Rattle.rv_chunks.proofs.edits.fill.Given as goal

abbrev pub invariant-loop : goal.invariant-loop
invariant-loop g l =
    AreFresh l.most l.fresh.items × (vec_len l.fresh ≡ l.counter) × (vec_capacity l.initial.fresh ≤ vec_capacity l.fresh)

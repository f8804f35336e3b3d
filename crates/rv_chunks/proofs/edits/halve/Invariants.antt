use Rattle.std.proofs.Common.{◌≡◌, ◌+◌, ◌++◌, ◌≤◌, vec_len, vec_capacity, reverse}
use Rattle.rv_chunks.proofs.edits.halve.Given as goal

abbrev pub invariant-loop : goal.invariant-loop
invariant-loop g l =
    (l.chunk.items ++ reverse l.fresh.items ≡ l.initial.chunk.items) × (vec_len l.chunk + l.counter ≡ l.most) × (vec_len l.fresh ≡ l.counter) × (vec_capacity l.initial.chunk ≤ vec_capacity l.chunk) × (vec_capacity l.initial.fresh ≤ vec_capacity l.fresh)

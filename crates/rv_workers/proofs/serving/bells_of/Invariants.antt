use Rattle.std.proofs.Common.{◌≡◌, ◌≤◌, vec_len}
use Rattle.std.specs.Prelude.{vec_capacity}
use Rattle.std.specs.List.{AllByRecursion}
use Rattle.rv_poke.specs.Bells.{unasked}
use Rattle.rv_workers.proofs.serving.bells_of.Given as goal

abbrev pub invariant-loop : goal.invariant-loop
invariant-loop g l = (vec_len l.bells ≡ l.counter) × (l.count ≤ vec_capacity l.bells) × AllByRecursion (λ bell. g.C.Bell.Bell.state bell ≡ unasked) l.bells.items

use Rattle.std.proofs.Common.{◌≡◌, ℕ, List, take}
use Rattle.rv_base.specs.Sorted.{sorted_by, InOrder}
use Rattle.rv_plain.proofs.registers.in_order.Given as goal

abbrev pub invariant-loop-name : goal.invariant-loop-name
invariant-loop-name l = (l.sorted.items ≡ sorted_by (λ (n : List ℕ). n) (take l.name-index l.names)) × InOrder (λ (n : List ℕ). n) l.sorted.items

use Rattle.std.proofs.Common.{◌≡◌, ℕ, List, take}
use Rattle.rv_base.specs.Sorted.{sorted_by, InOrder}
use Rattle.rv_rows.proofs.lists.in_order.Given as goal

abbrev pub invariant-loop-id : goal.invariant-loop-id
invariant-loop-id l = (l.sorted.items ≡ sorted_by (λ (i : List ℕ). i) (take l.id-index l.ids)) × InOrder (λ (i : List ℕ). i) l.sorted.items

use Rattle.std.proofs.Common.{◌≡◌, ℕ, List, ◌-◌, drop}
use Rattle.rv_base.specs.Sorted.{is_in_order}
use Rattle.rv_rows.proofs.lists.are_in_order.Given as goal

abbrev pub invariant-loop-i : goal.invariant-loop-i
invariant-loop-i l = is_in_order (λ (i : List ℕ). i) l.ids ≡ is_in_order (λ (i : List ℕ). i) (drop (l.i - 1) l.ids)

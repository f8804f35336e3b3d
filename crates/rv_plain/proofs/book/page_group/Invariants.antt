use Rattle.std.proofs.Common.{◌≡◌, drop}
use Rattle.rv_base.specs.Sorted.{find_by}
use Rattle.rv_plain.proofs.book.page_group.Given as goal

abbrev pub invariant-loop-told : goal.invariant-loop-told
invariant-loop-told l = find_by (λ g. g.0) l.group (drop l.told-index l.told-items) ≡ find_by (λ g. g.0) l.group l.told-items

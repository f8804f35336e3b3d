use Rattle.std.proofs.Common.{◌≡◌, drop}
use Rattle.rv_base.specs.Sorted.{find_by}
use Rattle.rv_plain.proofs.book.page_client.Given as goal

abbrev pub invariant-loop-told : goal.invariant-loop-told
invariant-loop-told l = find_by (λ c. c.0) l.client (drop l.told-index l.told-items) ≡ find_by (λ c. c.0) l.client l.told-items

use Rattle.std.proofs.Common.{◌∙◌}
use Rattle.std.specs.Ordering.{is_le}
use Rattle.rv_chunks.proofs.Searched.{ends_at}
use Rattle.rv_chunks.proofs.search.ends_not_above.Goals as goal

pub returns-in-Some : goal.returns-in-Some
returns-in-Some g c =
    let last = c.in-Some.ensures.item in
    c.is_le.ensures ∙ (λ i. is_le (c.compare.ensures i))
    ∙ ends_at (λ i. is_le (g.C.Compare.order c.args.sought.now i)) c.args.chunk.now c.in-Some.item.now last.3.0 last.1

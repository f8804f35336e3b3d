use Rattle.std.proofs.Common.{◌∙◌}
use Rattle.std.specs.Ordering.{is_lt}
use Rattle.rv_chunks.proofs.Searched.{ends_at}
use Rattle.rv_chunks.proofs.search.ends_below.Goals as goal

pub returns-in-Some : goal.returns-in-Some
returns-in-Some g c =
    let last = c.in-Some.ensures.item in
    c.is_lt.ensures ∙ (λ i. is_lt (c.compare.ensures i))
    ∙ ends_at (λ i. is_lt (g.C.Compare.order c.args.sought.now i)) c.args.chunk.now c.in-Some.item.now last.3.0 last.1

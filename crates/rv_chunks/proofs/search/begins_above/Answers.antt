use Rattle.std.proofs.Common.{◌∙◌, sym}
use Rattle.std.specs.Ordering.{is_gt}
use Rattle.rv_chunks.proofs.Searched.{first_above}
use Rattle.rv_chunks.proofs.search.begins_above.Goals as goal

pub returns-in-Some : goal.returns-in-Some
returns-in-Some g c = λ above rises.
    let first = c.in-Some.ensures.item in
    first_above (g.C.Compare.order c.args.sought.now) c.args.chunk.now c.in-Some.item.now first.3.0 first.1 (sym (c.is_gt.ensures ∙ (λ i. is_gt (c.compare.ensures i))) ∙ above) rises

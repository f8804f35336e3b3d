use Rattle.std.proofs.Common.{◌≡◌, ◌∙◌, ap, sym, subst, arith}
use Rattle.std.specs.Ordering.{is_eq}
use Rattle.std.specs.List.{filter}
use Rattle.rv_chunks.specs.Chunking.{chunk_at, Rises}
use Rattle.rv_chunks.specs.Vectors.{lists}
use Rattle.rv_chunks.proofs.Edited.{read}
use Rattle.rv_chunks.proofs.search.ties_in_first.Goals as goal

pub returns-else-begins_above : goal.returns-else-begins_above
returns-else-begins_above g c = λ rises.
    let chunks = c.args.chunks.now in
    let order = g.C.Compare.order c.args.sought.now in
    let first = c.in-Some.ensures.item in
    let chunk : c.deref-else-begins_above.result.now ≡ chunk_at (lists chunks) 0 = c.deref-else-begins_above.ensures.value ∙ read (λ v. v.items) chunks 0 c.in-Some.chunk.now (omega (arith, first.3.0)) first.1 in
    c.ties_in_chunk.ensures (subst (Rises order) (sym chunk) rises) ∙ ap (filter (λ i. is_eq (order i))) chunk

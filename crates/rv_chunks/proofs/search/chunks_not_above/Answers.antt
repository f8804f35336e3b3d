use Rattle.std.proofs.Common.{◌≡◌, ◌∙◌, sym, [], arith}
use Rattle.std.specs.Ordering.{is_le}
use Rattle.std.proofs.lemmas.List.{length-map}
use Rattle.rv_chunks.specs.Chunking.{chunk_at}
use Rattle.rv_chunks.specs.Vectors.{lists, ends}
use Rattle.rv_chunks.proofs.Edited.{read}
use Rattle.rv_chunks.proofs.Searched.{none_pass}
use Rattle.rv_chunks.proofs.search.chunks_not_above.Goals as goal

pub returns-else-ends_not_above-clause-parted : goal.returns-else-ends_not_above-clause-parted
returns-else-ends_not_above-clause-parted g c =
    let chunks = c.args.chunks.now in
    let test = ends (λ i. is_le (g.C.Compare.order c.args.sought.now i)) in
    let first = c.in-Some.ensures.item in
    let chunk : c.deref.result.now ≡ chunk_at (lists chunks) 0 = c.deref.ensures.value ∙ read (λ v. v.items) chunks 0 c.in-Some.chunk.now (omega (arith, first.3.0)) first.1 in
    none_pass test (lists chunks) c.deref.result.now [] (omega (arith, first.3.0, length-map chunks (λ v. v.items))) chunk (sym c.ends_not_above.ensures ∙ c.if-ends_not_above.false)

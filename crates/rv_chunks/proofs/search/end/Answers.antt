use Rattle.std.proofs.Common.{length, ap, arith}
use Rattle.std.proofs.lemmas.List.{length-map}
use Rattle.rv_chunks.specs.Vectors.{lists}
use Rattle.rv_chunks.proofs.Edited.{read, index_last}
use Rattle.rv_chunks.proofs.search.end.Goals as goal

pub returns-in-Some-clause-last : goal.returns-in-Some-clause-last
returns-in-Some-clause-last g c =
    let chunks = c.args.chunks.now in
    let last = c.in-Some.ensures.item in
    let chunk = c.in-Some.chunk.now in
    index_last (lists chunks) _ c.len.result (omega (arith, last.3.0, length-map chunks (λ v. v.items)))
    (omega (arith, chunk.ok.0, ap length (read (λ v. v.items) chunks _ chunk (omega (arith, last.3.0)) last.1)))

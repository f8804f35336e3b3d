use Rattle.std.proofs.Common.{◌∙◌, ap, arith}
use Rattle.std.proofs.lemmas.List.{length-map}
use Rattle.rv_chunks.specs.Chunking.{items}
use Rattle.rv_chunks.specs.Vectors.{lists}
use Rattle.rv_chunks.proofs.Edited.{take_there, take_chunk_there}
use Rattle.rv_chunks.proofs.edits.take_out.Goals as goal

pub returns-then-len-eq1-clause-items : goal.returns-then-len-eq1-clause-items
returns-then-len-eq1-clause-items g c =
    let chunks = c.args.chunks.now in
    ap (λ vs. items (lists vs)) c.remove.ensures.items
    ∙ take_chunk_there (λ v. v.items) chunks.items c.args.at.chunk c.args.at.offset c.index.result.now (omega (arith, chunks.ok.0, length-map chunks.items (λ v. v.items))) c.index.ensures (omega (arith, c.index.result.now.ok.0)) c.requires.item.1

pub returns-else-len-eq1-clause-items : goal.returns-else-len-eq1-clause-items
returns-else-len-eq1-clause-items g c =
    let chunks = c.args.chunks.now in
    take_there (λ v. v.items) chunks.items c.args.at.chunk c.args.at.offset c.index_mut.result.now c.take_from.new.chunk (omega (arith, chunks.ok.0, length-map chunks.items (λ v. v.items))) c.index_mut.ensures.value c.requires.item.1 c.take_from.ensures.items

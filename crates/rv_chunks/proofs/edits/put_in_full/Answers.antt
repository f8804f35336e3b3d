use Rattle.std.proofs.Common.{◌∙◌, ap, arith}
use Rattle.rv_chunks.specs.Chunking.{items}
use Rattle.rv_chunks.specs.Vectors.{lists}
use Rattle.rv_chunks.proofs.Edited.{split_there}
use Rattle.rv_chunks.proofs.edits.put_in_full.Goals as goal

pub returns-clause-items : goal.returns-clause-items
returns-clause-items g c =
    let chunks = c.args.chunks.now in
    ap (λ vs. items (lists vs)) c.put_chunk.ensures.chunks
    ∙ split_there (λ v. v.items) chunks.items c.args.at.chunk _ c.args.at.offset c.args.item c.index_mut.result.now c.spill.new.chunk c.spill.new.fresh (omega (arith, chunks.ok.0)) (omega arith) c.index_mut.ensures.value c.requires.gap.1 c.spill.ensures.items

use Rattle.std.proofs.Common.{arith}
use Rattle.rv_chunks.proofs.Edited.{put_there}
use Rattle.rv_chunks.proofs.edits.put_at.Goals as goal

pub returns-clause-items : goal.returns-clause-items
returns-clause-items g c =
    let chunks = c.args.chunks.now in
    put_there (λ v. v.items) chunks.items c.args.at.chunk c.args.at.offset c.args.item c.index_mut.result.now c.put.new.chunk (omega (arith, chunks.ok.0)) c.index_mut.ensures.value c.requires.gap.1 c.put.ensures.items

use Rattle.std.proofs.Common.{ap}
use Rattle.rv_chunks.specs.Chunking.{Chunked}
use Rattle.rv_chunks.proofs.Edited.{get_item}
use Rattle.rv_chunks.proofs.chunks.Chunks.get.Goals as goal

pub returns : goal.returns
returns g c =
    get_item (λ v. v.items) c.self.inside.chunks.items c.args.self.now.chunks c.args.at.chunk c.args.at.offset c.index-2.result.now c.index.result.now (ap (λ (p : Chunked _). p.chunks) c.self.view_is) c.requires.0 c.requires.1 c.index.ensures c.index-2.ensures

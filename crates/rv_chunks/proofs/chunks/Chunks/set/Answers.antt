use Rattle.std.proofs.Common.{ap, arith}
use Rattle.rv_chunks.specs.Chunking.{Chunked}
use Rattle.rv_chunks.specs.Vectors.{lists}
use Rattle.rv_chunks.proofs.Edited.{set_item, index-set}
use Rattle.rv_chunks.proofs.chunks.Chunks.set.Goals as goal

pub returns-clause-items : goal.returns-clause-items
returns-clause-items g c =
    set_item c.args.self.now.chunks (lists c.self.inside.chunks.items) (lists c.write_at.new.chunks.items) c.args.at.chunk c.args.at.offset c.args.item (ap (λ (p : Chunked _). p.chunks) c.self.view_is) c.write_at.ensures.items c.requires.0 c.requires.1

pub returns-clause-index : goal.returns-clause-index
returns-clause-index g c = λ other.
    index-set c.args.self.now.chunks (lists c.self.inside.chunks.items) (lists c.write_at.new.chunks.items) c.args.at.chunk c.args.at.offset c.args.item other.chunk other.offset (ap (λ (p : Chunked _). p.chunks) c.self.view_is) c.write_at.ensures.items

pub invariant_of-self : goal.invariant_of-self
invariant_of-self g c =
    let own = c.self.invariant in
    (c.write_at.ensures.chunks c.self.inside.most own.0, own.1, omega (arith, own.2, c.write_at.ensures.len, c.write_at.ensures.capacity), own.3)

use Rattle.std.proofs.Common.{refl, arith}
use Rattle.std.proofs.lemmas.List.{length-map}
use Rattle.std.specs.Vec.{with_item}
use Rattle.rv_chunks.proofs.Edited.{set_there}
use Rattle.rv_chunks.proofs.edits.write_at.Goals as goal

pub returns-clause-items : goal.returns-clause-items
returns-clause-items g c =
    let chunks = c.args.chunks.now in
    let chunk = c.index_mut-chunk.result.now in
    set_there (λ v. v.items) chunks.items c.args.at.chunk c.args.at.offset c.args.item chunk (with_item chunk c.args.at.offset c.args.item) (omega (arith, chunks.ok.0, length-map chunks.items (λ v. v.items))) c.index_mut-chunk.ensures.value refl

use Rattle.std.proofs.Common.{subst, sym}
use Rattle.rv_chunks.specs.Vectors.{lists, HaveItems}
use Rattle.rv_chunks.proofs.Edited.{have_items}
use Rattle.rv_chunks.proofs.chunks.Chunks.position_near.Goals as goal

pub position_near-requires : goal.position_near-requires
position_near-requires g c = subst (λ vs. HaveItems (lists vs)) (sym c.deref.ensures.value) (have_items c.self.inside.most c.self.inside.chunks.items c.self.invariant.0)

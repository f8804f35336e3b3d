use Rattle.std.proofs.Common.{subst, sym}
use Rattle.rv_chunks.specs.Vectors.{lists, HaveItems}
use Rattle.rv_chunks.proofs.Edited.{have_items}
use Rattle.rv_chunks.proofs.chunks.Chunks.first_tie.Goals as goal

pub first_tie_in-requires : goal.first_tie_in-requires
first_tie_in-requires g c = subst (λ vs. HaveItems (lists vs)) (sym c.deref.ensures.value) (have_items c.self.inside.most c.self.inside.chunks.items c.self.invariant.0)

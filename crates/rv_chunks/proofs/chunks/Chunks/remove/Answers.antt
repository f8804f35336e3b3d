use Rattle.std.proofs.Common.{arith}
use Rattle.rv_chunks.proofs.chunks.Chunks.remove.Goals as goal

pub invariant_of-self : goal.invariant_of-self
invariant_of-self g c =
    let own = c.self.invariant in
    (c.take_out.ensures.chunks c.self.inside.most own.0, own.1, omega (arith, own.2, c.take_out.ensures.len, c.take_out.ensures.capacity), own.3)

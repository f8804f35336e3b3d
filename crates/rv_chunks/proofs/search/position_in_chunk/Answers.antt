use Rattle.std.proofs.Common.{rules}
use Rattle.std.proofs.lemmas.Fn.{always_returns_same}
use Rattle.rv_chunks.proofs.search.position_in_chunk.Goals as goal

pub returns-clause-position : goal.returns-clause-position
returns-clause-position g c =
    c.binary_search_by.ensures.position (g.C.Compare.order c.args.sought.now) (always_returns_same _ _ _ (λ a r f called. search rules))

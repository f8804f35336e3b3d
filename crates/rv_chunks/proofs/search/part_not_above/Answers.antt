use Rattle.std.proofs.Common.{rules}
use Rattle.std.specs.Ordering.{is_le}
use Rattle.std.proofs.lemmas.Fn.{always_returns_same}
use Rattle.rv_chunks.specs.Vectors.{ends}
use Rattle.rv_chunks.proofs.Searched.{parts_through}
use Rattle.rv_chunks.proofs.search.part_not_above.Goals as goal

pub returns-clause-parted : goal.returns-clause-parted
returns-clause-parted g c =
    let test = ends (λ i. is_le (g.C.Compare.order c.args.sought.now i)) in
    let facts = c.partition_point.ensures in
    parts_through (λ v. v.items) test c.args.chunks.now c.partition_point.result facts.bound
    (facts.partitioned (λ v. test v.items) (always_returns_same _ _ _ (λ a r f called. search rules)))

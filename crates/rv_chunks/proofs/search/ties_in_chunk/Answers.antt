use Rattle.std.proofs.Common.{◌-◌, length, take, drop, rules}
use Rattle.std.specs.Ordering.{is_lt, is_le}
use Rattle.std.proofs.lemmas.Fn.{always_returns_same}
use Rattle.std.proofs.lemmas.List.{take_rest}
use Rattle.rv_chunks.proofs.Searched.{chunk_ties}
use Rattle.rv_chunks.proofs.search.ties_in_chunk.Goals as goal

pub returns : goal.returns
returns g c =
    let chunk = c.args.chunk.now in
    let order = g.C.Compare.order c.args.sought.now in
    let b = c.partition_point-below.result in
    let rest = take (length chunk - b) (drop b chunk) in
    let below = c.partition_point-below.ensures in
    let own = c.partition_point-own.ensures in
    chunk_ties order chunk rest b c.partition_point-own.result (take_rest chunk b) below.bound own.bound
    (below.partitioned (λ i. is_lt (order i)) (always_returns_same _ _ _ (λ a r f called. search rules)))
    (own.partitioned (λ i. is_le (order i)) (always_returns_same _ _ _ (λ a r f called. search rules)))

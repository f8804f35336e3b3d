use Rattle.std.proofs.Common.{◌-◌, length, take, drop, cond, Some, None, Bool, ap, sym, ◌∙◌, rules}
use Rattle.std.specs.Ordering.{is_lt, is_eq}
use Rattle.std.proofs.lemmas.Fn.{always_returns_same}
use Rattle.std.proofs.lemmas.List.{take_rest}
use Rattle.rv_chunks.proofs.Searched.{chunk_first, chunk_none}
use Rattle.rv_chunks.proofs.search.first_tie_in_chunk.Goals as goal

pub returns-then-is_eq : goal.returns-then-is_eq
returns-then-is_eq g c = λ rises.
    let chunk = c.args.chunk.now in
    let order = g.C.Compare.order c.args.sought.now in
    let b = c.partition_point-below.result in
    let item = c.in-Some.item.now in
    let below = c.partition_point-below.ensures in
    let first = c.in-Some.ensures.item in
    ap (λ (b : Bool). cond b (Some item) None) (sym (sym (c.is_eq.ensures ∙ (λ i. is_eq (c.compare.ensures i))) ∙ c.if-is_eq.true))
    ∙ chunk_first order chunk (take (length chunk - b) (drop b chunk)) item b (take_rest chunk b) below.bound (below.partitioned (λ i. is_lt (order i)) (always_returns_same _ _ _ (λ a r f called. search rules))) first.3.0 first.1 rises

pub returns-else-is_eq : goal.returns-else-is_eq
returns-else-is_eq g c = λ rises.
    let chunk = c.args.chunk.now in
    let order = g.C.Compare.order c.args.sought.now in
    let b = c.partition_point-below.result in
    let item = c.in-Some.item.now in
    let below = c.partition_point-below.ensures in
    let first = c.in-Some.ensures.item in
    ap (λ (b : Bool). cond b (Some item) None) (sym (sym (c.is_eq.ensures ∙ (λ i. is_eq (c.compare.ensures i))) ∙ c.if-is_eq.false))
    ∙ chunk_first order chunk (take (length chunk - b) (drop b chunk)) item b (take_rest chunk b) below.bound (below.partitioned (λ i. is_lt (order i)) (always_returns_same _ _ _ (λ a r f called. search rules))) first.3.0 first.1 rises

pub returns-in-None : goal.returns-in-None
returns-in-None g c =
    let chunk = c.args.chunk.now in
    let order = g.C.Compare.order c.args.sought.now in
    let b = c.partition_point-below.result in
    let below = c.partition_point-below.ensures in
    chunk_none order chunk (take (length chunk - b) (drop b chunk)) b (take_rest chunk b) below.bound (below.partitioned (λ i. is_lt (order i)) (always_returns_same _ _ _ (λ a r f called. search rules))) c.in-None.ensures.value

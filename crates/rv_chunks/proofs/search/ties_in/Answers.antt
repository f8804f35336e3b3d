use Rattle.std.proofs.Common.{length, ap, sym, ◌∙◌}
use Rattle.std.proofs.lemmas.List.{take_rest}
use Rattle.rv_chunks.proofs.Searched.{ties_found, none_found, have_middle}
use Rattle.rv_chunks.proofs.search.ties_in.Goals as goal

pub new-requires : goal.new-requires
new-requires g c =
    let rest = sym (take_rest c.args.chunks.now c.chunks_below-start.result) ∙ c.in-Some.ensures.cases.0 in
    have_middle (λ v. v.items) c.args.chunks.now c.in-Some.others.now c.split_at.result.0.now c.in-Some.chunk.now c.chunks_below-start.result c.chunks_not_above.result c.requires rest c.split_at.ensures.front

pub returns-in-Some : goal.returns-in-Some
returns-in-Some g c =
    let rest = sym (take_rest c.args.chunks.now c.chunks_below-start.result) ∙ c.in-Some.ensures.cases.0 in
    ties_found (g.C.Compare.order c.args.sought.now) (λ v. v.items) c.args.chunks.now c.in-Some.others.now c.split_at.result.0.now c.split_at.result.1.now c.in-Some.chunk.now c.chunks_below-start.result c.chunks_not_above.result c.deref.result.now c.ties_in_chunk.result.now c.ties_in_first.result.now c.new.result
    c.requires c.chunks_below-start.ensures.bound c.chunks_below-start.ensures.parted rest c.chunks_not_above.ensures.bound c.chunks_not_above.ensures.parted c.split_at.ensures.front c.split_at.ensures.back c.deref.ensures.value c.ties_in_chunk.ensures c.ties_in_first.ensures c.new.ensures

pub returns-in-None : goal.returns-in-None
returns-in-None g c = λ rises.
    let none = sym (ap length (take_rest c.args.chunks.now c.chunks_below-start.result)) ∙ c.in-None.ensures.cases in
    c.new-in-None.ensures ∙ none_found (g.C.Compare.order c.args.sought.now) (λ v. v.items) c.args.chunks.now c.chunks_below-start.result c.requires c.chunks_below-start.ensures.bound c.chunks_below-start.ensures.parted none rises

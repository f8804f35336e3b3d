use Rattle.std.proofs.Common.{◌≡◌, ◌-◌, length, take, drop, slice_get, ap, sym, ◌∙◌, subst}
use Rattle.std.specs.Ordering.{is_eq}
use Rattle.std.specs.List.{filter}
use Rattle.std.specs.Option.{option_map}
use Rattle.std.proofs.lemmas.List.{take_rest}
use Rattle.rv_chunks.specs.Chunking.{Rises}
use Rattle.rv_chunks.proofs.Searched.{first_found, none_found, none_first}
use Rattle.rv_chunks.proofs.search.first_tie_in.Goals as goal

pub returns-in-Some : goal.returns-in-Some
returns-in-Some g c =
    let chunks = c.args.chunks.now in
    let order = g.C.Compare.order c.args.sought.now in
    let start = c.chunks_below-start.result in
    let first = c.in-Some.ensures.item in
    let found = option_map (λ item. item.now) c.first_tie_in_chunk.result in
    first_found order (λ v. v.items) chunks (take (length chunks - start) (drop start chunks)) c.in-Some.chunk.now start found c.requires c.chunks_below-start.ensures.bound c.chunks_below-start.ensures.parted (take_rest chunks start) first.3.0 first.1
    (subst (λ t. Rises order t → found ≡ slice_get (filter (λ i. is_eq (order i)) t) 0) c.deref.ensures.value c.first_tie_in_chunk.ensures)

pub returns-in-None : goal.returns-in-None
returns-in-None g c = λ rises.
    let chunks = c.args.chunks.now in
    let order = g.C.Compare.order c.args.sought.now in
    let start = c.chunks_below-start.result in
    let rest = take (length chunks - start) (drop start chunks) in
    let none : length (drop start chunks) ≡ 0 = ap length (sym (take_rest chunks start)) ∙ none_first rest c.in-None.ensures.value in
    ap (λ t. slice_get t 0) (none_found order (λ v. v.items) chunks start c.requires c.chunks_below-start.ensures.bound c.chunks_below-start.ensures.parted none rises)

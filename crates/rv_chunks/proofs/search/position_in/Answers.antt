use Rattle.std.proofs.Common.{◌≡◌, ◌<◌, [], ◌∙◌, ap, sym, arith, length, get_or}
use Rattle.std.proofs.lemmas.List.{length-map}
use Rattle.rv_chunks.specs.Vectors.{lists}
use Rattle.rv_chunks.proofs.Edited.{read, get_one}
use Rattle.rv_chunks.specs.IndexLaws.{item_in_range, gap_in_range}
use Rattle.rv_chunks.proofs.Searched.{point_in, point_at_end}
use Rattle.rv_chunks.proofs.search.position_in.Goals as goal

pub returns-then-chunk-chunks-clause-position : goal.returns-then-chunk-chunks-clause-position
returns-then-chunk-chunks-clause-position g c =
    point_at_end (g.C.Compare.order c.args.sought.now) (lists c.args.chunks.now) c.chunks_below-chunk.result _ c.requires (omega (arith, length-map c.args.chunks.now (λ v. v.items))) c.end.ensures.last c.chunks_below-chunk.ensures.parted

pub returns-in-Ok-clause-bound : goal.returns-in-Ok-clause-bound
returns-in-Ok-clause-bound g c =
    let chunks = c.args.chunks.now in
    let n = c.chunks_below-chunk.result in
    let within : n < length chunks = omega arith in
    let in_range : n < length (lists chunks) = omega (arith, length-map chunks (λ v. v.items)) in
    let chunk : c.deref.result.now ≡ get_or (lists chunks) n [] = c.deref.ensures.value ∙ read (λ v. v.items) chunks n c.index-chunks-chunk.result within c.index-chunks-chunk.is in
    item_in_range (lists chunks) (record { chunk = n; offset = c.in-Ok.offset }) (in_range, omega (arith, ap length chunk, c.in-Ok.ensures.bound))

pub returns-in-Ok-clause-position : goal.returns-in-Ok-clause-position
returns-in-Ok-clause-position g c = λ d.
    let chunks = c.args.chunks.now in
    let n = c.chunks_below-chunk.result in
    let within : n < length chunks = omega arith in
    let in_range : n < length (lists chunks) = omega (arith, length-map chunks (λ v. v.items)) in
    let chunk : c.deref.result.now ≡ get_or (lists chunks) n [] = c.deref.ensures.value ∙ read (λ v. v.items) chunks n c.index-chunks-chunk.result within c.index-chunks-chunk.is in
    let order = g.C.Compare.order c.args.sought.now in
    ap order (get_one (lists chunks) n c.in-Ok.offset d in_range (omega (arith, ap length chunk, c.in-Ok.ensures.bound)))
    ∙ ap (λ t. order (get_or t c.in-Ok.offset d)) (sym chunk)
    ∙ c.in-Ok.ensures.position d

pub returns-in-Err-clause-bound : goal.returns-in-Err-clause-bound
returns-in-Err-clause-bound g c =
    let chunks = c.args.chunks.now in
    let n = c.chunks_below-chunk.result in
    let within : n < length chunks = omega arith in
    let in_range : n < length (lists chunks) = omega (arith, length-map chunks (λ v. v.items)) in
    let chunk : c.deref.result.now ≡ get_or (lists chunks) n [] = c.deref.ensures.value ∙ read (λ v. v.items) chunks n c.index-chunks-chunk.result within c.index-chunks-chunk.is in
    gap_in_range (lists chunks) (record { chunk = n; offset = c.in-Err.offset }) (omega arith, omega (arith, ap length chunk, c.in-Err.ensures.bound))

pub returns-in-Err-clause-position : goal.returns-in-Err-clause-position
returns-in-Err-clause-position g c =
    let chunks = c.args.chunks.now in
    let n = c.chunks_below-chunk.result in
    let within : n < length chunks = omega arith in
    let in_range : n < length (lists chunks) = omega (arith, length-map chunks (λ v. v.items)) in
    let chunk : c.deref.result.now ≡ get_or (lists chunks) n [] = c.deref.ensures.value ∙ read (λ v. v.items) chunks n c.index-chunks-chunk.result within c.index-chunks-chunk.is in
    point_in (g.C.Compare.order c.args.sought.now) (lists chunks) n c.in-Err.offset c.deref.result.now c.requires in_range chunk c.in-Err.ensures.bound c.chunks_below-chunk.ensures.parted c.in-Err.ensures.position

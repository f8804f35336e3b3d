use Rattle.std.proofs.Common.{◌<◌, length, arith}
use Rattle.std.proofs.lemmas.List.{length-map}
use Rattle.rv_chunks.specs.Vectors.{lists}
use Rattle.rv_chunks.specs.IndexLaws.{gap_in_range}
use Rattle.rv_chunks.proofs.Searched.{point_between}
use Rattle.rv_chunks.proofs.search.position_near.Goals as goal

pub returns-then-goes_at-clause-bound : goal.returns-then-goes_at-clause-bound
returns-then-goes_at-clause-bound g c =
    let chunks = lists c.args.chunks.now in
    let within = c.goes_at.ensures.chunk c.if-goes_at.true in
    let goes = c.goes_at.ensures.between c.if-goes_at.true in
    gap_in_range chunks c.args.near (omega (arith, within, length-map c.args.chunks.now (λ v. v.items)), omega (arith, goes.1))

pub returns-then-goes_at-clause-position : goal.returns-then-goes_at-clause-position
returns-then-goes_at-clause-position g c =
    let chunks = lists c.args.chunks.now in
    let within : c.args.near.chunk < length chunks = omega (arith, c.goes_at.ensures.chunk c.if-goes_at.true, length-map c.args.chunks.now (λ v. v.items)) in
    point_between (g.C.Compare.order c.args.sought.now) chunks c.args.near.chunk c.args.near.offset within (c.goes_at.ensures.between c.if-goes_at.true)

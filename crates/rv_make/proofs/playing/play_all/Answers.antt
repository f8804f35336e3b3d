use Rattle.rv_make.proofs.Midway.{midway_counts, midway_first, midway_last, midway_makes, midway_on}
use Rattle.rv_make.proofs.playing.play_all.Goals as goal

pub loop-index-init : goal.loop-index-init
loop-index-init g c = midway_first g.K.Keeper c.args.seed c.args.n _ _ _ _ c.new-generator.ensures c.requires.devices c.requires.counts c.requires.fresh c.requires.steady

pub next-requires : goal.next-requires
next-requires g c = midway_makes g.K.Keeper c.args.seed c.args.n _ _ _ _ _ c.loop-index-test.true c.ranges.n.fits c.loop-index.invariant

pub play_one-requires : goal.play_one-requires
play_one-requires g c = midway_counts g.K.Keeper c.args.seed c.args.n _ _ _ _ _ c.loop-index-test.true c.ranges.n.fits c.loop-index.invariant

pub loop-index-preserved : goal.loop-index-preserved
loop-index-preserved g c = midway_on g.K.Keeper c.args.seed c.args.n _ _ _ _ _ _ _ _ _ _ c.loop-index-test.true c.loop-index.invariant c.in_ok-request.ensures.request c.in_ok-request.ensures.ok c.in_ok-play_one.ensures

pub returns : goal.returns
returns g c = midway_last g.K.Keeper c.args.seed c.args.n _ _ _ _ _ c.loop-index-test.false c.loop-index.invariant

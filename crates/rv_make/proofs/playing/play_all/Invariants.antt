use Rattle.rv_make.proofs.Midway.{IsMidway}
use Rattle.rv_make.proofs.playing.play_all.Given as goal

abbrev pub invariant-loop-index : goal.invariant-loop-index
invariant-loop-index g l = IsMidway g.K.Keeper l.seed l.n l._index l.generator l.devices l.counts l.desk

use Rattle.rv_mutators.proofs.ReaderLaws.{readers_more}
use Rattle.rv_mutators.proofs.staged.add_readers.Goals as goal

pub loop-row-preserved : goal.loop-row-preserved
loop-row-preserved c = readers_more _ _ _ _ _ _ _ c.loop-row-test.true c.row-item.is c.in_ok-readers.ensures c.loop-row.invariant

use Rattle.std.proofs.Common.{length}
use Rattle.rv_base.proofs.Known.{Goes}
use Rattle.rv_base.proofs.writing.write_all.Given as goal

abbrev pub invariant-loop-rest : goal.invariant-loop-rest
invariant-loop-rest g l = Goes (g.O.Sink.state l.fn.out) (g.O.Sink.state l.out) (g.O.Sink.fails_no_more l.fn.out → g.O.Sink.fails_no_more l.out) l.text l.rest

abbrev pub decreases-loop-rest : goal.decreases-loop-rest
decreases-loop-rest g l = length l.rest

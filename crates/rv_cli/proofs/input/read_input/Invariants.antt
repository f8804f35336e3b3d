use Rattle.std.proofs.Common.{◌-◌, length}
use Rattle.rv_cli.proofs.Inputs.{Takes}
use Rattle.rv_cli.proofs.input.read_input.Given as goal

-- these bytes were taken, no read failed and none told the end
abbrev pub invariant-loop-bytes : goal.invariant-loop-bytes
invariant-loop-bytes g l = record {
  taken : Takes (g.S.Source.state l.fn.input) (g.S.Source.state l.input) l.bytes.items;
  goes_on : g.S.Source.fails_no_more l.fn.input → g.S.Source.fails_no_more l.input;
}

abbrev pub decreases-loop-bytes : goal.decreases-loop-bytes
decreases-loop-bytes g l = 16781313 - length l.bytes.items

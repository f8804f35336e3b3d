use Rattle.std.proofs.Common.{◌≡◌}
use Rattle.rv_cli.proofs.Taken.{Goes}
use Rattle.rv_cli.proofs.lines.take_lines.Given as goal

-- all lines so far are ended and taken, and what fails no more goes on so
abbrev pub invariant-loop-number : goal.invariant-loop-number
invariant-loop-number g l = record {
  goes : Goes g.T.LineTaker.taker l.fn.taker (g.S.Source.state l.fn.input) (g.O.Sink.state l.fn.out) l.taker (g.S.Source.state l.input) (g.O.Sink.state l.out) l.reader.pending l.number;
  input : g.S.Source.fails_no_more l.fn.input → g.S.Source.fails_no_more l.input;
  output : g.O.Sink.fails_no_more l.fn.out → g.O.Sink.fails_no_more l.out;
  steady : g.T.LineTaker.taker.fails_no_more l.fn.taker → g.T.LineTaker.taker.fails_no_more l.taker × (g.T.LineTaker.taker.faults l.taker ≡ g.T.LineTaker.taker.faults l.fn.taker);
}

use Rattle.std.proofs.Common.{◌<◌}
use Rattle.rv_serve.proofs.Talking.{Going}
use Rattle.rv_serve.proofs.serving.serve_requests.Given as goal

-- none of the answers so far closes, and what fails no more goes on so
abbrev pub invariant-loop-count : goal.invariant-loop-count
invariant-loop-count g l = record {
  going : Going g.T.Turns.takes g.T.CountsSettled.settled l.fn.accounts l.fn.turns l.turns (g.S.Source.state l.fn.source) (g.S.Source.state l.source) (g.O.Sink.state l.fn.sink) (g.O.Sink.state l.sink) (g.G.Gate.heard l.fn.gate) (g.G.Gate.heard l.gate) l.buffer l.count;
  below : l.count < 100;
  source : g.S.Source.fails_no_more l.fn.source → g.S.Source.fails_no_more l.source;
  sink : g.O.Sink.fails_no_more l.fn.sink → g.O.Sink.fails_no_more l.sink;
}

use Rattle.std.proofs.Common.{◌≡◌}
use Rattle.rv_serve.proofs.Conns.{ServedSoFar}
use Rattle.rv_serve.proofs.listening.serve_listener.Given as goal

-- the connections so far were served and are back
abbrev pub invariant-loop-conn : goal.invariant-loop-conn
invariant-loop-conn g l = record {
  served : ServedSoFar g.T.Turns.takes g.T.CountsSettled.settled g.L.Listen g.L.In.Source g.L.Out.Sink l.fn.accounts g.G.Gate l.fn.turns l.fn.listener l.fn.gate l.turns l.listener l.gate;
  tells : g.L.Listen.tells l.listener → g.L.Listen.tells l.fn.listener;
  ends : g.L.Listen.ends l.listener ≡ g.L.Listen.ends l.fn.listener;
}

abbrev pub decreases-loop-conn : goal.decreases-loop-conn
decreases-loop-conn g l = g.L.Listen.accepts l.listener

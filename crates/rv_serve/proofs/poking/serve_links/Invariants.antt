use Rattle.std.proofs.Common.{◌≡◌}
use Rattle.rv_serve.proofs.Links.{LinksSoFar}
use Rattle.rv_serve.proofs.poking.serve_links.Given as goal

-- the links so far were served and are back
abbrev pub invariant-loop-link : goal.invariant-loop-link
invariant-loop-link g l = record {
  served : LinksSoFar g.M.Marks.marks g.P.PokeListen g.P.Link.PokeLink l.accounts.accounts l.fn.marks (g.B.Bell.state l.fn.bell) l.fn.listener l.marks (g.B.Bell.state l.bell) l.listener;
  tells : g.P.PokeListen.tells l.listener → g.P.PokeListen.tells l.fn.listener;
  ends : g.P.PokeListen.ends l.listener ≡ g.P.PokeListen.ends l.fn.listener;
}

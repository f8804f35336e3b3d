use Rattle.rv_poke.specs.Sessions.{session_state}
use Rattle.rv_poke.proofs.Watching.{Going}
use Rattle.rv_poke.proofs.session.watch.Given as goal

-- how far the session has come
abbrev pub invariant-loop-wait : goal.invariant-loop-wait
invariant-loop-wait g l =
    Going g.M.Marks.marks l.user (session_state l.fn.marks (g.L.PokeLink.state l.fn.link) (g.B.Bell.state l.fn.bell)) (session_state l.marks (g.L.PokeLink.state l.link) (g.B.Bell.state l.bell)) l.told l.pokes l._wait

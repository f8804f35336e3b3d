use Rattle.rv_link.proofs.Opening.{opens, fails}
use Rattle.rv_link.proofs.line.Line.first.Goals as goal

pub returns-clause-opens : goal.returns-clause-opens
returns-clause-opens g c = opens g.S.Read.remaining _ _ _ _ _ c.in-Fresh.ensures.value c.in_ok-socket.ensures c.read-first.ensures.reads

pub returns-clause-fails : goal.returns-clause-fails
returns-clause-fails g c failed = fails g.S.Read.remaining _ _ _ _ c.in-Fresh.ensures.value c.in_ok-socket.ensures (c.read-first.ensures.fails failed)

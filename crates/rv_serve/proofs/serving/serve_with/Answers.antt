use Rattle.rv_serve.proofs.Talking.{no_buffer}
use Rattle.rv_serve.proofs.serving.serve_with.Goals as goal

pub returns-in_default-clause-talks : goal.returns-in_default-clause-talks
returns-in_default-clause-talks g c =
    no_buffer g.T.Turns.takes g.T.CountsSettled.settled c.args.accounts.now c.args.turns.now (g.S.Source.state c.args.conn.now.source) (g.O.Sink.state c.args.conn.now.sink) (g.O.Sink.state c.refuse_memory.new.sink) (g.G.Gate.heard c.args.gate.now) c.refuse_memory.result c.refuse_memory.ensures.ends

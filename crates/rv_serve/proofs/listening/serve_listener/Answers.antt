use Rattle.std.proofs.Common.{◌∙◌, List, [], ◌∷◌, ◌++◌, sym, ap, arith}
use Rattle.rv_net.specs.declared.conn.Conn.{Conn}
use Rattle.rv_serve.proofs.Conns.{served_all, served_more}
use Rattle.rv_serve.proofs.listening.serve_listener.Goals as goal

pub loop-conn-preserved : goal.loop-conn-preserved
loop-conn-preserved g c =
    let told = c.done.ensures.tells in
    let given = c.in-Conn.ensures.given in record {
      served = served_more g.T.Turns.takes g.T.CountsSettled.settled g.L.Listen g.L.In.Source g.L.Out.Sink c.args.accounts.now g.G.Gate
          c.args.turns.now c.args.listener.now c.args.gate.now c.loop-conn.turns c.loop-conn.listener c.loop-conn.gate c.serve_with-end.new.turns c.done.new.self c.serve_with-end.new.gate
          c.in-Conn.conn c.serve_with-end.new.conn c.serve_with-end.result.0 c.loop-conn.invariant.served
          c.serve_with-end.ensures.talks c.serve_with-end.ensures.cause c.serve_with-end.ensures.steady_input c.serve_with-end.ensures.steady_output
          (λ now. c.in-Conn.ensures.tells (told now))
          (λ now. (given (told now)).0 ∙ ap (λ (conns : List (Conn g.row.L-In.Denot g.row.L-Out.Denot)). c.in-Conn.conn ∷ conns) (sym (c.done.ensures.to_come now)))
          (λ now. c.done.ensures.back now ∙ ap (λ (conns : List (Conn g.row.L-In.Denot g.row.L-Out.Denot)). conns ++ c.serve_with-end.new.conn ∷ []) (c.in-Conn.ensures.back (told now)))
          (λ now. omega (arith, (given (told now)).1, c.done.ensures.out now));
      tells = λ now. c.loop-conn.invariant.tells (c.in-Conn.ensures.tells (told now));
      ends = c.done.ensures.ends ∙ c.in-Conn.ensures.ends ∙ c.loop-conn.invariant.ends;
    }

pub returns-in-End-clause-serves : goal.returns-in-End-clause-serves
returns-in-End-clause-serves g c =
    let given = c.in-End.ensures.given in
    served_all g.T.Turns.takes g.T.CountsSettled.settled g.L.Listen g.L.In.Source g.L.Out.Sink c.args.accounts.now g.G.Gate
    c.args.turns.now c.args.listener.now c.args.gate.now c.loop-conn.turns c.loop-conn.listener c.accept.new.self c.loop-conn.gate c.loop-conn.invariant.served
    c.in-End.ensures.tells (λ now. (given now).0) (λ now. (given now).1) c.in-End.ensures.back (λ now. (given now).2)

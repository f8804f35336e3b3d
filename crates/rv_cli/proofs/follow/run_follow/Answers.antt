use Rattle.std.proofs.Common.{sym, lit<}
use Rattle.rv_cli.specs.ServingSteps.{count_text}
use Rattle.rv_cli.proofs.Followed.{follow_among, listener_of_lines}
use Rattle.rv_cli.proofs.follow.run_follow.Goals as goal

pub returns-in-Ok-clause-complete : goal.returns-in-Ok-clause-complete
returns-in-Ok-clause-complete g c =
    let net = c.in-Ok.ensures.follows.follows in
    let lines = listener_of_lines g.N.Listen.Listen g.N.Listen.In.Source g.N.Listen.Out.Sink net.given net.returned c.in-Ok.ensures.follows.now c.in-Ok.lines net.follows in
    follow_among (count_text c.in-Ok.entries) (g.O.Sink.state c.args.out.now) (g.O.Sink.state c.write_end.new.out) c.in-Ok.lines c.write_end.result c.status.result lines c.write_end.ensures.tells c.status.ensures

pub returns-in-Err-Failed-clause-complete : goal.returns-in-Err-Failed-clause-complete
returns-in-Err-Failed-clause-complete g c = (4, lit< tt, sym (rw c.tell.ensures.ending at c.status-in-Err-Failed.ensures))

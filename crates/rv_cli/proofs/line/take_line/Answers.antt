use Rattle.rv_cli.proofs.Taking.{asked_steady, takes_asked, takes_stop}
use Rattle.rv_cli.proofs.line.take_line.Goals as goal

pub returns-in-Ok-Some-Asks-clause-takes : goal.returns-in-Ok-Some-Asks-clause-takes
returns-in-Ok-Some-Asks-clause-takes g c =
    let lines = rw (c.in-Ok-Some-Asks.field-0-is, c.in-Ok-Some-Asks.field-0-0-is) at c.in-Ok-Some-Asks.ensures in
    takes_asked g.K.Keeper c.args.desk.now c.serve.new.desk c.args.line.now c.args.number c.in-Ok-Some-Asks.read c.serve.result (g.O.Sink.state c.args.out.now) (g.O.Sink.state c.serve.new.out) lines c.serve.ensures.serves

pub returns-in-Ok-Some-Stop-clause-takes : goal.returns-in-Ok-Some-Stop-clause-takes
returns-in-Ok-Some-Stop-clause-takes g c =
    let lines = rw (c.in-Ok-Some-Stop.field-0-is, c.in-Ok-Some-Stop.field-0-0-is) at c.in-Ok-Some-Stop.ensures in
    takes_stop g.K.Keeper c.args.desk.now c.restart.new.desk c.args.line.now c.args.number c.restart.result (g.O.Sink.state c.args.out.now) lines c.restart.ensures.restarts

pub returns-in-Ok-Some-Asks-clause-steady_keeper : goal.returns-in-Ok-Some-Asks-clause-steady_keeper
returns-in-Ok-Some-Asks-clause-steady_keeper g c =
    let lines = rw (c.in-Ok-Some-Asks.field-0-is, c.in-Ok-Some-Asks.field-0-0-is) at c.in-Ok-Some-Asks.ensures in
    asked_steady g.K.Keeper c.args.desk.now c.serve.new.desk c.args.line.now c.in-Ok-Some-Asks.read c.serve.result (g.O.Sink.state c.args.out.now) (g.O.Sink.state c.serve.new.out) lines c.serve.ensures.serves c.serve.ensures.steady_keeper

use Rattle.rv_cli.proofs.Taking.{answered_front, answered_whole, served_steady}
use Rattle.rv_cli.proofs.line.serve.Goals as goal

pub returns-in-Ok-clause-serves : goal.returns-in-Ok-clause-serves
returns-in-Ok-clause-serves g c = λ asked reading.
    answered_whole g.K.Keeper c.args.desk.now c.serve_asked-answer.new.turns asked c.serve_asked-answer.result (g.O.Sink.state c.args.out.now) (g.O.Sink.state c.write_answer.new.out) c.write_answer.result c.in-Ok.is (c.serve_asked-answer.ensures asked reading) c.write_answer.ensures.writes

pub returns-clause-serves : goal.returns-clause-serves
returns-clause-serves g c = λ asked reading.
    answered_front g.K.Keeper c.args.desk.now c.serve_asked-answer.new.turns asked c.serve_asked-answer.result (g.O.Sink.state c.args.out.now) (g.O.Sink.state c.write_answer.new.out) c.write_answer.result _ c.in-Err.is (c.serve_asked-answer.ensures asked reading) c.write_answer.ensures.writes

pub returns-in-Ok-clause-steady_keeper : goal.returns-in-Ok-clause-steady_keeper
returns-in-Ok-clause-steady_keeper g c = λ asked reading f. served_steady g.K.Keeper c.args.desk.now c.serve_asked-answer.new.turns asked c.serve_asked-answer.result (c.serve_asked-answer.ensures asked reading) f

pub returns-clause-steady_keeper : goal.returns-clause-steady_keeper
returns-clause-steady_keeper g c = λ asked reading f. served_steady g.K.Keeper c.args.desk.now c.serve_asked-answer.new.turns asked c.serve_asked-answer.result (c.serve_asked-answer.ensures asked reading) f

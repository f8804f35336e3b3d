use Rattle.rv_cli.proofs.Fed.{fed, fed_steady}
use Rattle.rv_cli.proofs.lines.feed.Goals as goal

pub returns-clause-feeds : goal.returns-clause-feeds
returns-clause-feeds g c =
    fed g.K.Keeper c.args.desk c.take_lines-ending.new.taker c.close.result (g.S.Source.state c.args.input.now) (g.S.Source.state c.take_lines-ending.new.input) (g.O.Sink.state c.args.out.now) (g.O.Sink.state c.take_lines-ending.new.out) c.take_lines-ending.result
    c.close.ensures.keeper c.close.ensures.kept c.close.ensures.sound c.take_lines-ending.ensures.takes

pub returns-clause-steady_keeper : goal.returns-clause-steady_keeper
returns-clause-steady_keeper g c = λ f. fed_steady g.K.Keeper c.args.desk c.take_lines-ending.new.taker c.close.result c.take_lines-ending.result c.close.ensures.keeper (c.take_lines-ending.ensures.steady_taker f)

use Rattle.std.proofs.Common.{Ok, false}
use Rattle.rv_answering.specs.declared.request.Request.TheVariants.{Close}
use Rattle.rv_cli.proofs.Taking.{desk_replies, replies_steady}
use Rattle.rv_cli.proofs.program.closed.Goals as goal

pub returns-clause-closed : goal.returns-clause-closed
returns-clause-closed g c = desk_replies g.K.Keeper c.args.desk c.close_book-answer.new.turns c.close.result (Ok Close) c.close_book-answer.result (false, c.close_book-answer.ensures) c.close.ensures.keeper c.close.ensures.kept c.close.ensures.sound

pub returns-clause-steady : goal.returns-clause-steady
returns-clause-steady g c = λ f. replies_steady g.K.Keeper c.args.desk c.close_book-answer.new.turns c.close.result (Ok Close) c.close_book-answer.result (false, c.close_book-answer.ensures) c.close.ensures.keeper f

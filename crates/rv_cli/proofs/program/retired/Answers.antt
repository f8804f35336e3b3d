use Rattle.std.proofs.Common.{Ok, false}
use Rattle.rv_answering.specs.declared.request.Request.TheVariants.{Retire}
use Rattle.rv_cli.proofs.Taking.{desk_replies, replies_steady}
use Rattle.rv_cli.proofs.program.retired.Goals as goal

pub returns-clause-retired : goal.returns-clause-retired
returns-clause-retired g c = desk_replies g.K.Keeper c.args.desk c.retire_group-answer.new.turns c.close.result (Ok (Retire c.args.group.now)) c.retire_group-answer.result (false, c.retire_group-answer.ensures) c.close.ensures.keeper c.close.ensures.kept c.close.ensures.sound

pub returns-clause-steady : goal.returns-clause-steady
returns-clause-steady g c = λ f. replies_steady g.K.Keeper c.args.desk c.retire_group-answer.new.turns c.close.result (Ok (Retire c.args.group.now)) c.retire_group-answer.result (false, c.retire_group-answer.ensures) c.close.ensures.keeper f

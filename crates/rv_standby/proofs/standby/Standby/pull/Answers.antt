use Rattle.rv_standby.proofs.Fronts.{answers_tell}
use Rattle.rv_standby.proofs.standby.Standby.pull.Goals as goal

pub returns-in-Ok-clause-tells : goal.returns-in-Ok-clause-tells
returns-in-Ok-clause-tells g c = answers_tell c.args.self.now.book c.args.user.now c.args.request.now c.in-Ok.outcome c.in-Ok.ensures.answers

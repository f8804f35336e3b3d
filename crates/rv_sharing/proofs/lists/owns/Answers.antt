use Rattle.std.proofs.Common.{◌∙◌, Some, None}
use Rattle.rv_sharing.proofs.OwnerLaws.{owns-found}
use Rattle.rv_sharing.proofs.lists.owns.Goals as goal

pub returns-in-Some : goal.returns-in-Some
returns-in-Some c = c.eq.ensures ∙ owns-found c.args.user.now c.args.list.now c.args.tables.now.rows (Some c.in-Some.owner.now) c.in-Some.ensures.order c.in-Some.ensures.owner

pub returns-in-None : goal.returns-in-None
returns-in-None c = owns-found c.args.user.now c.args.list.now c.args.tables.now.rows None c.in-None.ensures.order c.in-None.ensures.owner

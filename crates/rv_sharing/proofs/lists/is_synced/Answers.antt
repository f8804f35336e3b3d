use Rattle.std.proofs.Common.{◌∙◌}
use Rattle.rv_sharing.proofs.ExtentLaws.{synced-found}
use Rattle.rv_sharing.proofs.lists.is_synced.Goals as goal

pub returns : goal.returns
returns c = c.is_named.ensures ∙ synced-found c.args.user.now c.args.list.now c.args.tables.now.rows _ c.extent_of.ensures.order c.extent_of.ensures.extent

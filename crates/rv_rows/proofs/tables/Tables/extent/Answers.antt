use Rattle.std.proofs.Common.{sym, ◌∙◌}
use Rattle.rv_rows.proofs.ExtentLaws.{none_found}
use Rattle.rv_rows.proofs.tables.Tables.extent.Goals as goal

pub returns-else-has_extents-clause-found : goal.returns-else-has_extents-clause-found
returns-else-has_extents-clause-found c = none_found c.args.user.now c.args.self.now.rows (sym c.has_extents.ensures.extents ∙ c.if-has_extents.false)

use Rattle.std.proofs.Common.{sym, ◌∙◌}
use Rattle.rv_rows.proofs.ExtentLaws.{told_by_first}
use Rattle.rv_rows.proofs.tables.Tables.has_extents.Goals as goal

pub returns-in-Some-clause-extents : goal.returns-in-Some-clause-extents
returns-in-Some-clause-extents c = told_by_first c.args.self.now.rows _ (c.in-Some.row.now, c.in-Some._version) _ c.iter.ensures.order (sym c.iter.ensures.rows ∙ c.in-Some.ensures.steps) c.is_extent.ensures

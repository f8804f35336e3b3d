use Rattle.std.proofs.Common.{sym, ◌∙◌}
use Rattle.rv_rows.specs.declared.row.Row.TheVariants.{Extent}
use Rattle.rv_mutators.proofs.Calls.{stays_same}
use Rattle.rv_mutators.proofs.shares.set_role.Goals as goal

pub returns-in-Extent : goal.returns-in-Extent
returns-in-Extent c = rw c.in-Extent.is (c.nothing.ensures ∙ sym (stays_same (Extent c.in-Extent.field-0)))

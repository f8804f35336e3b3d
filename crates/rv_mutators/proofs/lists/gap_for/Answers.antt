use Rattle.std.proofs.Common.{ap, not, ◌∙◌}
use Rattle.rv_rows.specs.Keys.{key_text}
use Rattle.rv_mutators.proofs.Calls.{row_in}
use Rattle.rv_mutators.proofs.lists.gap_for.Goals as goal

pub returns : goal.returns
returns c = c.gap.ensures ∙ ap not (row_in (key_text (record { kind = c.args.kind; id = c.args.id.now })) c.args.tables.now.rows)

use Rattle.std.proofs.Common.{◌∙◌}
use Rattle.rv_rows.specs.Keys.{key_text}
use Rattle.rv_mutators.proofs.Calls.{row_there}
use Rattle.rv_mutators.proofs.lists.has_row.Goals as goal

pub returns : goal.returns
returns c = c.is_some.ensures ∙ row_there (λ r. (r.0.now, r.1)) c.row.result (key_text (record { kind = c.args.kind; id = c.args.id.now })) c.args.tables.now.rows c.row.ensures.found

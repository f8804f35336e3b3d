use Rattle.std.proofs.Common.{◌∙◌}
use Rattle.rv_rows.specs.Held.{rows_in}
use Rattle.rv_sharing.proofs.OwnerLaws.{is_list-found}
use Rattle.rv_sharing.proofs.lists.has_list.Goals as goal

pub returns : goal.returns
returns c = c.is_some.ensures ∙ is_list-found (λ owner. owner.now) c.owner_of.result c.args.list.now (rows_in c.args.tables.now.rows) c.owner_of.ensures.owner

use Rattle.std.proofs.Common.{◌∙◌}
use Rattle.rv_book.specs.Logs.{logged}
use Rattle.rv_book.proofs.GroupLaws.{bound-found}
use Rattle.rv_book.proofs.groups.info_from.Goals as goal

pub returns-clause-user : goal.returns-clause-user
returns-clause-user c = c.user_of.ensures ∙ bound-found c.args.group.now (logged c.args.log) c.row_from-row.result.bound c.row_from-row.ensures.bound

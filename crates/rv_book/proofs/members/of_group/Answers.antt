use Rattle.std.proofs.Common.{◌∙◌, ap, List}
use Rattle.std.specs.List.{filter_map}
use Rattle.rv_book.specs.declared.clients.ClientRow.{ClientRow}
use Rattle.rv_book.specs.Logs.{logged}
use Rattle.rv_book.specs.Members.{info_by}
use Rattle.rv_book.proofs.IdLaws.{ids-members, ids-in_order}
use Rattle.rv_book.proofs.members.of_group.Goals as goal

pub returns-clause-ids : goal.returns-clause-ids
returns-clause-ids c =
    let book = logged c.args.log in
    c.new.ensures ∙ ap (λ (rows : List ClientRow). filter_map (info_by book) rows) c.of.ensures ∙ ids-members c.args.group.now book c.args.rows.now c.requires

pub returns-clause-order : goal.returns-clause-order
returns-clause-order c = ids-in_order c.args.group.now (logged c.args.log)

use Rattle.std.proofs.Common.{refl}
use Rattle.rv_record.proofs.Steps.{group_unread, group_taken}
use Rattle.rv_record.proofs.page_read.PageRead.take_group.Goals as goal

pub returns-in_err-group : goal.returns-in_err-group
returns-in_err-group c = λ limit cells has follows. group_unread limit cells c.args.self.now.page c.args.cell.now _ c.args.self.now refl has _ _ c.requires.shelf c.from_residual.ensures.1 c.in_err-group.ensures

pub returns : goal.returns
returns c = λ limit cells has follows.
    group_taken limit cells c.args.self.now c.args.cell.now has follows (c.in_ok-group.group, c.in_ok-group.user, c.in_ok-group.order, c.in_ok-group.retired) c.group_fits.ensures c.requires.shelf c.in_ok-group.ensures
    (record { page = record { at = c.args.self.now.page.at; rows = c.args.self.now.page.rows; clients = c.args.self.now.page.clients; groups = c.push.new.self }; tables = c.args.self.now.tables }) (λ i. record { at = c.args.self.now.page.at; rows = c.args.self.now.page.rows; clients = c.args.self.now.page.clients; groups = c.in_ok-push.ensures.ok i }) refl

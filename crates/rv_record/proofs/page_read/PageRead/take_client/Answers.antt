use Rattle.std.proofs.Common.{refl}
use Rattle.rv_record.proofs.Steps.{client_unread, client_taken, client_breaks, ends_with}
use Rattle.rv_record.proofs.page_read.PageRead.take_client.Goals as goal

pub returns-in_err-client : goal.returns-in_err-client
returns-in_err-client c = λ limit has follows. client_unread limit c.args.cells.now c.args.self.now.page c.args.cell.now _ c.args.self.now refl has _ _ c.requires.shelf c.from_residual.ensures.1 c.in_err-client.ensures

pub returns-then-not-client_follows : goal.returns-then-not-client_follows
returns-then-not-client_follows c = λ limit has follows.
    ends_with limit c.args.cells.now c.args.self.now.page c.args.cell.now c.args.self.now _ c.damaged.ensures
    (client_breaks limit c.args.cells.now c.args.self.now c.args.cell.now has follows (c.in_ok-client.client, c.in_ok-client.group, c.in_ok-client.last) c.client_fits.ensures c.requires.shelf c.in_ok-client.ensures c.client_follows.result c.client_follows.ensures c.if-not-client_follows.true)

pub returns : goal.returns
returns c = λ limit has follows.
    client_taken limit c.args.cells.now c.args.self.now c.args.cell.now has follows (c.in_ok-client.client, c.in_ok-client.group, c.in_ok-client.last) c.client_fits.ensures c.requires.shelf c.in_ok-client.ensures
    (record { page = record { at = c.args.self.now.page.at; rows = c.args.self.now.page.rows; clients = c.push.new.self; groups = c.args.self.now.page.groups }; tables = c.args.self.now.tables }) (c.client_follows.ensures.0 c.if-not-client_follows.false) (λ i. record { at = c.args.self.now.page.at; rows = c.args.self.now.page.rows; clients = c.in_ok-push.ensures.ok i; groups = c.args.self.now.page.groups }) refl

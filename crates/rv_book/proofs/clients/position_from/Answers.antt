use Rattle.std.proofs.Common.{length}
use Rattle.rv_book.specs.Book.{with_entry}
use Rattle.rv_book.specs.Logs.{logged}
use Rattle.rv_book.specs.declared.clients.ClientRow.{ClientRow}
use Rattle.rv_book.specs.Indexes.{acting, client_of_row}
use Rattle.rv_book.proofs.IndexLaws.{stands, stands-alike, all_alike}
use Rattle.rv_book.proofs.ClientLaws.{client_of_row-before}
use Rattle.rv_book.proofs.clients.position_from.Goals as goal

pub returns-then-stands_at-clause-now : goal.returns-then-stands_at-clause-now
returns-then-stands_at-clause-now c =
    let key = client_of_row (logged c.args.log) in
    stands key key c.args.client.now c.args.rows.now c.args.at c.requires.order (c.stands_at.ensures c.if-stands_at.true)

pub returns-then-stands_at-clause-next : goal.returns-then-stands_at-clause-next
returns-then-stands_at-clause-next c = λ entry.
    let book = logged c.args.log in
    let rows = c.args.rows.now in
    let key = client_of_row book in
    let next = client_of_row (with_entry book entry) in
    stands-alike key next c.args.client.now rows c.args.at (all_alike key next (λ (row : ClientRow). row.first) (length (acting book)) rows (client_of_row-before book entry) c.requires.within) c.requires.order (c.stands_at.ensures c.if-stands_at.true)

use Rattle.std.proofs.Common.{rules, length}
use Rattle.std.specs.Ordering.{nat_cmp}
use Rattle.std.specs.Cmp.Lexicographic.{slice_cmp}
use Rattle.std.proofs.lemmas.Fn.{always_returns_same}
use Rattle.rv_base.specs.PositionLaws.{settles}
use Rattle.rv_book.specs.Book.{with_entry}
use Rattle.rv_book.specs.Logs.{logged}
use Rattle.rv_book.specs.declared.clients.ClientRow.{ClientRow}
use Rattle.rv_book.specs.Indexes.{acting, client_of_row}
use Rattle.rv_book.proofs.IndexLaws.{settles-alike, all_alike}
use Rattle.rv_book.proofs.ClientLaws.{client_of_row-before}
use Rattle.rv_book.proofs.clients.position.Goals as goal

pub returns-clause-now : goal.returns-clause-now
returns-clause-now c =
    let book = logged c.args.log in
    let k = c.args.client.now in
    let facts = c.binary_search_by.ensures in
    settles (client_of_row book) k c.args.rows.now _ c.requires.order facts.bound (facts.position (λ y. slice_cmp nat_cmp (client_of_row book y) k) (always_returns_same _ _ _ (λ a r f called. search rules)))

pub returns-clause-next : goal.returns-clause-next
returns-clause-next c = λ entry.
    let book = logged c.args.log in
    let k = c.args.client.now in
    let rows = c.args.rows.now in
    let facts = c.binary_search_by.ensures in
    let alike = all_alike (client_of_row book) (client_of_row (with_entry book entry)) (λ (row : ClientRow). row.first) (length (acting book)) rows (client_of_row-before book entry) c.requires.within in
    settles-alike (client_of_row book) (client_of_row (with_entry book entry)) k rows _ alike c.requires.order facts.bound (facts.position (λ y. slice_cmp nat_cmp (client_of_row book y) k) (always_returns_same _ _ _ (λ a r f called. search rules)))

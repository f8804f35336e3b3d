use Rattle.std.proofs.Common.{◌≡◌, take}
use Rattle.rv_book.proofs.PageRows.{page_client_row, rows_from}
use Rattle.rv_book.proofs.clients.of_page.Given as goal

abbrev pub invariant-loop-first : goal.invariant-loop-first
invariant-loop-first l = l.rows.items ≡ rows_from page_client_row 0 (take l.first l.clients)

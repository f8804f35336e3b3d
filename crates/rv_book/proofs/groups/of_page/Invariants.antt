use Rattle.std.proofs.Common.{◌≡◌, take}
use Rattle.rv_book.proofs.PageRows.{page_group_row, rows_from}
use Rattle.rv_book.proofs.groups.of_page.Given as goal

abbrev pub invariant-loop-named : goal.invariant-loop-named
invariant-loop-named l = l.rows.items ≡ rows_from page_group_row 0 (take l.named l.groups)

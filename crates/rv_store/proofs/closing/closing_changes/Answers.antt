use Rattle.std.proofs.Common.{◌≡◌, ◌^◌, ◌<◌, ap, arith}
use Rattle.std.proofs.lemmas.Grind.{common_steps}
use Rattle.rv_book.specs.Book.{size}
use Rattle.rv_store.specs.ClosingChanges.{closing_changes}
use Rattle.rv_store.proofs.Closings.{closing-are, closing-next, rows_of_page}
use Rattle.rv_store.proofs.closing.closing_changes.Goals as goal

small : (c : goal.In_ok-add_groups) → size c.args.state.now.book < 2 ^ 32
small c = omega (arith, c.requires.below, c.requires.lawful.sums.at, ap (λ page. page.at) c.in-Some.ensures.page, ap (λ book. book.page.at) c.requires.lawful.is)

listed : (c : goal.In_ok-add_groups) → c.add_groups.new.changes.items ≡ closing_changes c.args.state.now.book c.args.closed.now.book.page c.records.result.now.records
listed c = let rows = rows_of_page c.args.state.now.book c.args.closed.now.book c.requires.lawful c.tables.result.now.rows c.tables.ensures in grind (arith, common_steps)

pub returns : goal.returns
returns c = record {
  are = closing-are c.args.state.now.book c.args.closed.now.book c.requires.lawful c.records.result.now.records c.add_groups.new.changes.items c.book-book.ensures.lawful (small c) c.records.ensures (listed c);
  leads = closing-next c.args.state.now.book c.args.closed.now.book c.requires.lawful c.records.result.now.records c.add_groups.new.changes.items c.book-book.ensures.lawful (small c) c.records.ensures (listed c);
}

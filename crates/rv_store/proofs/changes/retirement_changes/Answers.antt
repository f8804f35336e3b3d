use Rattle.std.proofs.Common.{◌≡◌, Some, arith}
use Rattle.std.proofs.lemmas.Grind.{common_steps}
use Rattle.rv_book.specs.Book.{bound}
use Rattle.rv_store.specs.EntryChanges.{retire_changes}
use Rattle.rv_store.proofs.NextEntries.{enters_retirement}
use Rattle.rv_store.proofs.changes.retirement_changes.Goals as goal

pub returns : goal.returns
returns c =
    let owned : bound c.args.group.now c.args.state.now.book ≡ Some c.in-Some.user.now = grind (arith, common_steps) in
    let made : c.add_gone_views.new.changes.items ≡ retire_changes c.args.state.now.book c.args.group.now c.in-Some.user.now c.records.result.now.records = grind (arith, common_steps) in
    enters_retirement c.args.state.now (omega (arith, c.book-book.ensures.limit, c.len-place.ensures.range)) c.add_gone_views.new.changes.items
    c.args.group.now c.in-Some.user.now c.records.result.now.records c.requires.below c.book-book.ensures.rows c.records.ensures owned made

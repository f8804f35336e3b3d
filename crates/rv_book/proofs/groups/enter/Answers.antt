use Rattle.std.proofs.Common.{◌≡◌, ◌∙◌, ◌+◌, ℕ, length, ap, arith, subst, sym}
use Rattle.rv_book.specs.declared.entry.Entry.{Entry}
use Rattle.rv_book.specs.declared.groups.GroupRow.{GroupRow}
use Rattle.rv_book.specs.Book.{Book, size, with_entry}
use Rattle.rv_book.specs.Logs.{logged}
use Rattle.rv_book.specs.Indexes.{AreGroupRows, naming, new_row, row_after}
use Rattle.rv_book.proofs.GroupLaws.{enter_again, enter_first, looks_bound}
use Rattle.rv_book.proofs.groups.enter.Goals as goal

-- the row after the entry, by the index and the place as they were counted
after_is : (book : Book) (e : Entry) (index length_is : ℕ) (row left : GroupRow) → index ≡ length (naming book) → length_is ≡ size book → left ≡ row_after index (length_is + 1) e row → left ≡ row_after (length (naming book)) (size book + 1) e row
after_is book e index length_is row left i l is = is ∙ (λ j. row_after (i j) (l j + 1) e row)

pub after-requires : goal.after-requires
after-requires c = omega (arith, looks_bound (logged c.args.log) c.named.result.now c.args.rows.now.items _ c.in-Ok.at c.index.result.now c.requires.rows c.deref.ensures.value c.in-Ok.ensures.now c.index.ensures, c.requires.length)

pub returns-in-Ok-clause-rows : goal.returns-in-Ok-clause-rows
returns-in-Ok-clause-rows c =
    let entry = c.args.entry.now in
    enter_again (logged c.args.log) entry c.named.result.now c.args.rows.now.items _ c.in-Ok.at c.index.result.now c.after.result c.named.ensures c.requires.rows c.deref.ensures.value (c.in-Ok.ensures.next entry) c.index.ensures (after_is (logged c.args.log) entry c.naming_len-index.result c.len-place.result c.index.result.now c.after.result c.naming_len-index.ensures c.len-place.ensures c.after.ensures)

pub returns-in-Ok-insert-clause-rows : goal.returns-in-Ok-insert-clause-rows
returns-in-Ok-insert-clause-rows c =
    let entry = c.args.entry.now in
    subst (AreGroupRows (with_entry (logged c.args.log) entry)) (sym c.in-Ok-insert.ensures.items)
    (enter_first (logged c.args.log) entry c.named.result.now c.args.rows.now.items _ c.in-Err.at c.new.result c.after-in-Err.result c.named.ensures c.requires.rows c.deref.ensures.value (c.in-Err.ensures.next entry) (c.new.ensures ∙ ap new_row c.naming_len-index.ensures) (after_is (logged c.args.log) entry c.naming_len-index.result c.len-place.result c.new.result c.after-in-Err.result c.naming_len-index.ensures c.len-place.ensures c.after-in-Err.ensures))

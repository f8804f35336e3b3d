use Rattle.std.proofs.Common.{◌≡◌, ◌+◌, take}
use Rattle.rv_book.specs.Book.{book_from}
use Rattle.rv_history.specs.Replay.{IsReplay}
use Rattle.rv_plain.proofs.closing.stored_rows.Given as goal

abbrev pub invariant-loop-entry : goal.invariant-loop-entry
invariant-loop-entry l =
    IsReplay (book_from l.book.page (take l.entry-index l.book.entries)) l.stored.items × (l.place ≡ l.book.page.at + l.entry-index) × (l.entry-items ≡ l.book.entries)

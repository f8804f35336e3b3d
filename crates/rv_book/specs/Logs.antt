-- The book that a page and entries make.
use Rattle.rv_book.specs.declared.log.Log.{Log}
use Rattle.rv_book.specs.Book.{Book, book_from}

abbrev pub logged : Log → Book
logged log = book_from log.page.now log.entries.now

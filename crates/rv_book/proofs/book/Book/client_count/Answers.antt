use Rattle.std.proofs.Common.{◌∙◌, length, ap}
use Rattle.rv_book.specs.Book.{book_from}
use Rattle.rv_book.specs.Recorded.{Recorded}
use Rattle.rv_book.specs.Registers.{clients_of}
use Rattle.rv_book.proofs.InfoLaws.{client-count}
use Rattle.rv_book.proofs.book.Book.client_count.Goals as goal

pub returns : goal.returns
returns c =
    let inside = c.self.inside in
    c.len.ensures ∙ inside.clients.ok.0 ∙ client-count (book_from inside.page inside.entries.items) inside.clients.items c.self.invariant.clients ∙ ap (λ (r : Recorded). length (clients_of r.book)) c.self.view_is

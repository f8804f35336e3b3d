use Rattle.std.proofs.Common.{◌∙◌, length, ap, subst, sym}
use Rattle.rv_book.specs.Book.{book_from}
use Rattle.rv_book.specs.Recorded.{Recorded}
use Rattle.rv_book.specs.Registers.{groups_of, RetiresBound}
use Rattle.rv_book.proofs.InfoLaws.{group-count}
use Rattle.rv_book.proofs.book.Book.group_count.Goals as goal

pub returns : goal.returns
returns c =
    let inside = c.self.inside in
    let bounds : RetiresBound (book_from inside.page inside.entries.items) = subst (λ (r : Recorded). RetiresBound r.book) (sym c.self.view_is) c.requires in
    c.len.ensures ∙ inside.groups.ok.0 ∙ group-count (book_from inside.page inside.entries.items) inside.groups.items bounds c.self.invariant.groups ∙ ap (λ (r : Recorded). length (groups_of r.book)) c.self.view_is

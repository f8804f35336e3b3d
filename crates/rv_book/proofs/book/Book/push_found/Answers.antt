use Rattle.std.proofs.Common.{◌<◌, ap, subst, sym}
use Rattle.rv_book.specs.Book.{book_from, size}
use Rattle.rv_book.specs.Recorded.{Recorded}
use Rattle.rv_book.proofs.LookRowLaws.{indexed-push}
use Rattle.rv_book.proofs.book.Book.push_found.Goals as goal

pub invariant_of-self : goal.invariant_of-self
invariant_of-self c =
    let page = c.self.inside.page in
    indexed-push (book_from page c.self.inside.entries.items) (book_from page c.deref.result.now) (book_from page c.push-2.new.self.items) c.args.entry c.self.inside.limit c.self.inside.look_rows.items c.push.new.self.items c.look_row-look_row.result
    c.enter.new.rows.items c.enter-first_group.new.rows.items c.enter-2.new.rows.items (subst (λ (r : Recorded). size r.book < r.limit) (sym c.self.view_is) c.requires.limit) c.self.invariant.small c.self.invariant.lasts (ap (book_from page) c.deref.ensures.value)
    (ap (book_from page) c.in-Ok-push.ensures.items) c.self.invariant.looks c.look_row-look_row.ensures c.in-Ok.ensures.items c.enter.ensures.rows c.enter-first_group.ensures.rows c.enter-2.ensures.rows

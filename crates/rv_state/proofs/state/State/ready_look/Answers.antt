use Rattle.std.proofs.Common.{ap, sym, subst, ◌∙◌, arith}
use Rattle.rv_book.specs.Book.{Book, size}
use Rattle.rv_book.specs.declared.entry.Entry.{Entry}
use Rattle.rv_book.specs.declared.entry.Entry.TheVariants.{Look}
use Rattle.rv_history.specs.Lawful.{IsLawfulAfter}
use Rattle.rv_news.specs.Records.{IsViewAt}
use Rattle.rv_state.specs.Standing.{Standing}
use Rattle.rv_state.proofs.state.State.ready_look.Goals as goal

pub returns-clause-prepared : goal.returns-clause-prepared
returns-clause-prepared c =
    let entry : Entry = Look c.args.user c.args.group c.args.order c.args.base in
    let book = c.in_ok-reserve.ensures.book ∙ ap (λ (t : Standing). t.book) c.self.view_is in
    let limit = c.in_ok-reserve.ensures.limit ∙ ap (λ (t : Standing). t.limit) c.self.view_is in
    let length = ap size book in record {
      lawful = subst (λ (b : Book). IsLawfulAfter b entry) (sym book) c.requires.lawful;
      fits = c.look_fits.ensures;
      below = omega (arith, c.requires.within_limit, length, limit);
      space = c.in_ok-reserve.ensures.spare_entries;
      effect = (c.in_ok-reserve-2.ensures.ok, subst (λ (b : Book). IsViewAt b c.args.user c.args.group c.args.view) (sym book) c.requires.view, c.falls_out-gone.ensures);
    }

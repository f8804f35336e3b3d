use Rattle.std.proofs.Common.{◌≡◌, ℕ, ◌+◌, ◌≤◌, ap, ◌∙◌, subst}
use Rattle.rv_book.specs.Book.{Book}
use Rattle.rv_history.specs.MarkLaws.{mark_same}
use Rattle.rv_history.specs.Reading.{pull_steps}
use Rattle.rv_news.specs.News.{is_base_since}
use Rattle.rv_state.proofs.state.State.news.Goals as goal

pub returns-clause-since : goal.returns-clause-since
returns-clause-since g c = λ mark is since. (
    let user = c.args.user.now in
    let request = c.args.request.now in
    let book = c.args.self.now.book in
    let same : c.mark.result ≡ mark = mark_same user book c.mark.result mark c.mark.ensures is in
    let inside : c.self.inside.book.book ≡ book = cc in
    c.news_for.ensures.since (ap (λ (b : Book). is_base_since c.mark.result user request b) inside ∙ ap (λ (m : ℕ). is_base_since m user request book) same ∙ since))

pub returns-clause-most : goal.returns-clause-most
returns-clause-most g c =
    let inside : c.self.inside.book.book ≡ c.args.self.now.book = cc in
    subst (λ (book : Book). c.news_for.new.steps ≤ c.args.steps.now + pull_steps c.args.user.now c.args.request.now book) inside c.news_for.ensures.most

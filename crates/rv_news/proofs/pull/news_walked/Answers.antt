use Rattle.std.proofs.Common.{◌≤◌, ◌+◌, ap, ◌∙◌, arith}
use Rattle.rv_book.specs.Book.{ids}
use Rattle.rv_sharing.specs.Gathered.{keys_at}
use Rattle.rv_news.proofs.NewsLaws.{base_found, news_shown}
use Rattle.rv_news.proofs.ReadLaws.{within_view, within_both}
use Rattle.rv_news.proofs.pull.news_walked.Goals as goal

pub returns-in_err-rows-clause-most : goal.returns-in_err-rows-clause-most
returns-in_err-rows-clause-most g c =
    within_view c.args.user.now c.args.request.now c.args.book.now.book c.args.tables.now.rows c.args.steps.now c.rows_seen.new.steps c.requires.replay (omega (arith, c.clients_read.ensures.most, c.rows_seen.ensures.most))

pub returns-in_err-keys_of-clause-most : goal.returns-in_err-keys_of-clause-most
returns-in_err-keys_of-clause-most g c =
    within_view c.args.user.now c.args.request.now c.args.book.now.book c.args.tables.now.rows c.args.steps.now c.rows_seen.new.steps c.requires.replay (omega (arith, c.clients_read.ensures.most, c.rows_seen.ensures.most))

pub returns-in_err-view-clause-most : goal.returns-in_err-view-clause-most
returns-in_err-view-clause-most g c =
    within_view c.args.user.now c.args.request.now c.args.book.now.book c.args.tables.now.rows c.args.steps.now c.rows_seen.new.steps c.requires.replay (omega (arith, c.clients_read.ensures.most, c.rows_seen.ensures.most))

pub returns-clause-most : goal.returns-clause-most
returns-clause-most g c =
    let found = base_found c.args.book.now.book c.args.records.now.records c.args.base _ c.requires.records c.base_record-found.ensures in
    within_both c.args.user.now c.args.request.now c.args.book.now.book c.args.tables.now.rows c.args.base c.base_record-found.result c.args.steps.now c.rows_seen.new.steps c.news_since.new.steps c.requires.replay
    c.requires.base found (omega (arith, c.clients_read.ensures.most, c.rows_seen.ensures.most)) c.news_since.ensures.most

pub returns-clause-news : goal.returns-clause-news
returns-clause-news g c =
    let found = base_found c.args.book.now.book c.args.records.now.records c.args.base _ c.requires.records c.base_record-found.ensures in
    news_shown c.args.user.now c.args.request.now c.args.book.now.book c.args.tables.now.rows c.args.base _ c.in_ok-view.view c.news_since.result c.requires.replay c.requires.base found
    (c.in_ok-view.ensures.0 ∙ c.in_ok-keys_of.ensures ∙ ap keys_at c.deref.ensures.value ∙ c.in_ok-rows.ensures.seen)
    (c.in_ok-view.ensures.1 ∙ c.in_ok-clients.ensures.clients)
    c.news_since.ensures.base c.news_since.ensures.view c.news_since.ensures.ops c.news_since.ensures.ids c.news_since.ensures.order

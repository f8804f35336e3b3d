use Rattle.rv_news.proofs.news.news_of.Goals as goal

pub returns-clause-order : goal.returns-clause-order
returns-clause-order g c = c.in_ok-clear.ensures.arranged.ids

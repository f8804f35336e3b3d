-- Each record is kept where the closure says so, which changes nothing that it captures.
use Rattle.std.proofs.Common.{rules}
use Rattle.std.proofs.lemmas.Fn.{filter_same}
use Rattle.rv_news.proofs.records.Records.drop_at.Goals as goal

pub returns-clause-records : goal.returns-clause-records
returns-clause-records c = rw (← c.self.view_is) (filter_same _ _ _ (λ x b f' k. search rules) _ _ c.retain.ensures.filtered)

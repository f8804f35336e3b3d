use Rattle.std.proofs.Common.{rules}
use Rattle.std.proofs.lemmas.Fn.{always_returns_same}
use Rattle.rv_news.proofs.Searched.{located}
use Rattle.rv_news.proofs.records.locate.Goals as goal

pub returns : goal.returns
returns c =
    let facts = c.binary_search_by_key.ensures in
    located c.args.place c.args.records.now _ c.requires facts.bound (facts.position (λ y. y.0) (always_returns_same _ _ _ (λ a r f called. search rules)))

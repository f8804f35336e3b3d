use Rattle.std.proofs.Common.{sym, ◌∙◌}
use Rattle.rv_news.specs.UnchangedLaws.{unchanged_since}
use Rattle.rv_news.proofs.pull.is_since.Goals as goal

pub returns-then-mark-place-clause-unchanged : goal.returns-then-mark-place-clause-unchanged
returns-then-mark-place-clause-unchanged c = λ own.
    unchanged_since c.args.user.now c.args.request.now c.args.book.now.book c.args.mark c.in-Some.place c.requires.lawful c.requires.mark
    (sym c.requires.base ∙ c.in-Some.is) (sym c.is_look_of.ensures ∙ own) c.if-mark-place.true

use Rattle.std.proofs.Common.{◌∙◌, sym}
use Rattle.rv_words.proofs.Numbers.{number_read}
use Rattle.rv_words.proofs.number.number_of.Goals as goal

-- A number whose decimal text this is, between the bounds.
pub returns-then-number-most-clause-number : goal.returns-then-number-most-clause-number
returns-then-number-most-clause-number c =
    number_read c.args.least c.args.most c.in_ok-number.number c.args.text.now c.ranges.most.fits (sym c.is_text_of.ensures ∙ c.if-is_text_of.true) c.if-least-number.true c.if-number-most.true

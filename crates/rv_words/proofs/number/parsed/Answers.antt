use Rattle.std.proofs.Common.{◌∙◌, ap, arith}
use Rattle.std.specs.Result.{result_ok}
use Rattle.std.proofs.lemmas.Fmt.{parse-decimal}
use Rattle.rv_words.proofs.number.parsed.Goals as goal

-- A number's decimal text is read as the number.
pub returns : goal.returns
returns c number lt is = c.ok.ensures.value ∙ ap result_ok (parse-decimal 32 number _ c.parse.result lt (omega (arith, lt)) is c.parse.ensures.value.0)

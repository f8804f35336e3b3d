use Rattle.std.proofs.Common.{◌∙◌, ap, subst, sym, IsUtf8}
use Rattle.std.specs.Result.{result_ok}
use Rattle.std.proofs.lemmas.Fmt.{parse-decimal, IsAscii-decimal}
use Rattle.std.proofs.lemmas.Str.{IsUtf8-from_ascii}
use Rattle.rv_sqlite.proofs.number.parsed.Goals as goal

-- A number's decimal text is read as the number.
pub returns-in-Ok : goal.returns-in-Ok
returns-in-Ok c number lt is = c.ok.ensures.value ∙ ap result_ok (parse-decimal 64 number c.in-Ok.digits.now c.parse.result lt lt (c.in-Ok.ensures.cases.0 ∙ is) c.parse.ensures.value.0)

-- It is ASCII, and so UTF-8.
pub returns-in-Err : goal.returns-in-Err
returns-in-Err c number lt is = absurd (c.in-Err.ensures.cases.0 (subst IsUtf8 (sym is) (IsUtf8-from_ascii _ (IsAscii-decimal number lt))))

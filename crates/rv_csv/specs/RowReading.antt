-- What a text is read as before it is compared with what is written anew.
use Rattle.std.specs.Prelude.{ℕ, List, Option, option_and_then}
use Rattle.rv_rows.specs.declared.row.Row.{Row}
use Rattle.rv_json.specs.JsonTexts.{json_in}
use Rattle.rv_rows.specs.RowTexts.{row_in}

-- the row whose JSON the text is, spaced and spelled in any way
abbrev pub row_text_in : List ℕ → Option Row
row_text_in text = option_and_then row_in (json_in text)

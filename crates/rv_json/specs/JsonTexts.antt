-- What a text is as JSON, and from what a reader says.
use Rattle.std.specs.Prelude.{ℕ, List, Option, None, if◌then◌else◌}
use Rattle.std.specs.Str.{is_utf8}
use Rattle.serde_json.specs.Data.{Data}
use Rattle.serde_json.specs.Read.{read}

-- the JSON value of a text that is UTF-8; JSON that nests deeper than 127 is none
unfoldable pub json_in : List ℕ → Option Data
json_in text = if is_utf8 text then read text else None

-- A text as JSON, by whether it is UTF-8.
use Rattle.std.proofs.Common.{◌≡◌, ℕ, List, None}
use Rattle.std.specs.Str.{IsUtf8}
use Rattle.std.proofs.lemmas.Str.{is_utf8-from_IsUtf8}
use Rattle.serde_json.specs.Read.{read}
use Rattle.rv_json.specs.JsonTexts.{json_in}
use Rattle.rv_json.specs.JsonTextLaws.{json_none}

pub json_of_text : (text : List ℕ) → IsUtf8 text → json_in text ≡ read text
unfolding json_in
json_of_text text valid = rw (is_utf8-from_IsUtf8 text valid)

pub json_of_none : (text : List ℕ) → ¬ IsUtf8 text → json_in text ≡ None
json_of_none text not = json_none text (λ valid. absurd (not valid))

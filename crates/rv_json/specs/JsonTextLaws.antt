-- When a text is a JSON value, by what its reader says.
use Rattle.std.proofs.Common.{◌≡◌, ℕ, true, false, cond, List, Some, None, refl}
use Rattle.std.specs.Str.{IsUtf8, is_utf8}
use Rattle.std.proofs.lemmas.Str.{IsUtf8-from_is_utf8, is_utf8-from_IsUtf8}
use Rattle.serde_json.specs.Data.{Data}
use Rattle.serde_json.specs.Read.{read}
use Rattle.rv_json.specs.JsonTexts.{json_in}

pub json_some : (text : List ℕ) (d : Data) → IsUtf8 text → read text ≡ Some d → json_in text ≡ Some d
unfolding json_in
json_some text d valid e = rw (is_utf8-from_IsUtf8 text valid) e

pub json_none : (text : List ℕ) → (IsUtf8 text → read text ≡ None) → json_in text ≡ None
unfolding json_in
json_none text none = elim (is_utf8 text) as (λ b. is_utf8 text ≡ b → cond b (read text) None ≡ None) [ true ↦ λ e. none (IsUtf8-from_is_utf8 text e) | false ↦ λ e. refl ] refl

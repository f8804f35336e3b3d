use Rattle.std.proofs.Common.{sym, ap, ◌∙◌, subst, Vec, Global}
use Rattle.std.specs.Prelude.{ℕ}
use Rattle.std.specs.Str.{IsUtf8}
use Rattle.std.proofs.lemmas.Str.{IsUtf8-string_bytes}
use Rattle.rv_record.proofs.cells.row_key.Goals as goal

pub returns-clause-utf8 : goal.returns-clause-utf8
returns-clause-utf8 c = subst IsUtf8 (sym (c.from_vec.ensures ∙ ap (λ (v : Vec ℕ Global). v.items) c.into_bytes.ensures.value)) (IsUtf8-string_bytes c.in_ok-text.text)

use Rattle.std.proofs.Common.{ℕ, List, true, ap, sym, ◌∙◌}
use Rattle.std.specs.Prelude.{◌||◌, drop}
use Rattle.std.proofs.lemmas.List.{take_rest}
use Rattle.std.specs.Float.{binary64, float_is_finite}
use Rattle.fast_float.specs.Text.{Parts, scan, nearest}
use Rattle.rv_json.specs.Numbers.{fits_below}
use Rattle.rv_json.specs.NumberLaws.{signed_in_range}
use Rattle.rv_json.proofs.lookup.is_in_range.Goals as goal

pub returns-then-is_signed : goal.returns-then-is_signed
returns-then-is_signed c =
    c.is_signed_in_range.ensures ∙ ap (λ (q : Parts). fits_below q || float_is_finite (nearest binary64 true q)) (c.scan.ensures.parts ∙ ap scan (take_rest c.as_bytes-bytes.result.now 1) ∙ ap (λ (b : List ℕ). scan (drop 1 b)) c.as_bytes-bytes.ensures.value)
    ∙ sym (signed_in_range c.args.text.now (sym c.is_signed.ensures ∙ c.if-is_signed.true))

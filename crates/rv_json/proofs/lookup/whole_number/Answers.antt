use Rattle.std.proofs.Common.{Some, None, ap, sym, ◌∙◌}
use Rattle.std.specs.Prelude.{if◌then◌else◌}
use Rattle.fast_float.specs.Text.{Parts, scan, digits_of}
use Rattle.rv_json.specs.Numbers.{fits_whole}
use Rattle.rv_json.specs.NumberLaws.{signed_is_not_whole, unsigned_is_whole, some_iff, whole_iff}
use Rattle.rv_json.proofs.lookup.whole_number.Goals as goal

pub returns-then-is_signed : goal.returns-then-is_signed
returns-then-is_signed c = sym (signed_is_not_whole c.args.text.now (sym c.is_signed.ensures ∙ c.if-is_signed.true))

pub returns-else-is_signed : goal.returns-else-is_signed
returns-else-is_signed c =
    let p = c.scan.result in
    some_iff c.to_u64.result (fits_whole p) _ (digits_of p) (whole_iff p) c.to_u64.ensures ∙ ap (λ (q : Parts). if fits_whole q then Some (digits_of q) else None) (c.scan.ensures.parts ∙ ap scan c.as_bytes.ensures.value)
    ∙ sym (unsigned_is_whole c.args.text.now (sym c.is_signed.ensures ∙ c.if-is_signed.false))

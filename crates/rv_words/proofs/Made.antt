-- The laws of `make`, from what its words ask for without clap.
use Rattle.std.proofs.Common.{◌≡◌, ◌∙◌, ◌≤◌, ap, arith, refl, sym, [], ◌∷◌, Some, option_map, false, codes, decimal, ℕ}
use Rattle.std.specs.Prelude.{option_and_then}
use Rattle.std.specs.Int.{IsInRange}
use Rattle.std.proofs.lemmas.Fmt.{decimal_is_IsNumeral}
use Rattle.rv_base.specs.PositionLaws.{equals}
use Rattle.rv_words.specs.Numbers.{number_in}
use Rattle.rv_words.specs.Words.{make_of}
use Rattle.rv_words.specs.Plain.{asked_with}
use Rattle.rv_words.specs.Properties.{MakeIsAsked, begins_with_hyphen}
use Rattle.rv_words.specs.declared.command.Command.TheVariants.{Make}
use Rattle.rv_words.proofs.Asked.{is_value, one_value}
use Rattle.rv_words.proofs.Numbers.{number_read}
use Rattle.rv_words.proofs.Lines.{line_is_plain}
use Rattle.rv_words.proofs.ServeLaws.{digit_is_plain}

-- ---- numbers in bounds are taken

begins_plainly : (number : ℕ) → number ≤ 2147483647 → begins_with_hyphen (decimal number) ≡ false
begins_plainly number most = digit_is_plain (decimal number) (decimal_is_IsNumeral number (omega (arith, most))).0.1

is_in : (most number : ℕ) → most ≤ 2147483647 → IsInRange 0 most number → number_in 0 most (decimal number) ≡ Some number
is_in most number small range = sym (number_read 0 most number (decimal number) (omega (arith, small)) (equals (decimal number)) range.0 range.1)

made : (seed requests : ℕ) → IsInRange 0 2147483647 seed → IsInRange 0 1000000 requests → make_of (decimal seed) (decimal requests) ≡ Some (Make seed requests)
made seed requests seeds counts =
    let is_seed = is_in 2147483647 seed (omega (arith)) seeds in
    let is_count = is_in 1000000 requests (omega (arith)) counts in
    rw (is_seed, is_count) refl

pub make_asked : MakeIsAsked
make_asked = record {
  plain = λ name seed requests seeds counts.
      line_is_plain (name ∷ codes "make" ∷ decimal seed ∷ decimal requests ∷ [])
      ∙ ap (λ values. option_and_then (asked_with (codes "make")) values)
      (is_value (decimal seed) (decimal requests ∷ []) (begins_plainly seed seeds.1)
      ∙ ap (λ values. option_map (λ v. decimal seed ∷ v) values) (one_value (decimal requests) (begins_plainly requests (omega (arith, counts.1)))))
      ∙ made seed requests seeds counts;
  after_hyphens = λ name seed requests seeds counts.
      line_is_plain (name ∷ codes "make" ∷ codes "--" ∷ decimal seed ∷ decimal requests ∷ []) ∙ made seed requests seeds counts;
}

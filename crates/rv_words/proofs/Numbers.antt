-- Numbers among the words.
use Rattle.std.proofs.Common.{◌≡◌, ◌∙◌, ◌<◌, ◌≤◌, ◌^◌, ℕ, List, Some, true, ap, refl, sym, decimal, arith}
use Rattle.std.specs.Prelude.{nat_le}
use Rattle.std.specs.Str.{bytes_eq}
use Rattle.std.specs.Str.Parse.{digits_value}
use Rattle.std.specs.Cmp.Lexicographic.{same_text}
use Rattle.std.proofs.lemmas.Bool.Decides.{nat_tests}
use Rattle.std.proofs.lemmas.Fmt.{decimal_is_IsNumeral}
use Rattle.rv_words.specs.Numbers.{number_in}

-- the value of a number's decimal text is the number
pub value_of_decimal : (number : ℕ) → number < 2 ^ 32 → digits_value 10 (decimal number) ≡ number
value_of_decimal number lt = (decimal_is_IsNumeral number (omega (arith, lt))).1

-- a number between the bounds is read from its decimal text
pub number_read : (least most number : ℕ) (text : List ℕ) → most < 2 ^ 32 → bytes_eq (decimal number) text ≡ true → least ≤ number → number ≤ most
    → Some number ≡ number_in least most text
number_read least most number text lt same low high =
    let is : digits_value 10 text ≡ number = ap (digits_value 10) (sym (same_text (decimal number) text (sym same))) ∙ value_of_decimal number (omega (arith, lt, high)) in
    let above : nat_le least number ≡ true = grind (arith, nat_tests) in
    let below : nat_le number most ≡ true = grind (arith, nat_tests) in
    rw (is, same, above, below) refl

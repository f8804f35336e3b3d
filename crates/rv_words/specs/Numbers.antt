-- Numbers among the words.
use Rattle.std.specs.Prelude.{ℕ, ◌&&◌, List, Option, Some, None, decimal, nat_le, if◌then◌else◌}
use Rattle.std.specs.Str.{bytes_eq}
use Rattle.std.specs.Str.Parse.{digits_value}

-- the number that the text is in decimal digits, without sign and leading zeros, between these bounds
abbrev pub number_in : ℕ → ℕ → List ℕ → Option ℕ
number_in least most text =
    let number = digits_value 10 text in
    if bytes_eq (decimal number) text && nat_le least number && nat_le number most then Some number else None

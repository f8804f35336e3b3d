-- What the texts of numbers are, sign by sign.
use Rattle.std.specs.Prelude.{◌^◌, ◌&&◌, Bool, nat_lt, nat_le}
use Rattle.fast_float.specs.Text.{Parts, digits_of}
use Rattle.serde_json.specs.Read.{is_integer}

-- an integer that fits 64 bits
abbrev pub fits_whole : Parts → Bool
fits_whole p = is_integer p && nat_lt (digits_of p) (2 ^ 64)

-- a whole number below 0 that fits 64 bits, by its digits
abbrev pub fits_below : Parts → Bool
fits_below p = is_integer p && nat_lt 0 (digits_of p) && nat_le (digits_of p) (2 ^ 63)

-- How a report prints texts and numbers.
use Rattle.std.specs.Prelude.{ℕ, ◌-◌, List, [], ◌∷◌, ◌++◌, length, replicate, decimal}
use Rattle.json.specs.Token.{string}
use Rattle.json.specs.Print.{print}

-- a text as a JSON string (RFC 8259, section 7)
abbrev pub quoted : List ℕ → List ℕ
quoted text = print (string text ∷ [])

-- a number in decimal, right in ten places with spaces (32) before it
abbrev pub in_ten : ℕ → List ℕ
in_ten number = replicate (10 - length (decimal number)) 32 ++ decimal number

-- When a text is taken, and when it is refused.
use Rattle.std.specs.Prelude.{◌≡◌, ℕ, ◌≤◌, ◌<◌, List, length, Result, Ok, Err}
use Rattle.rv_base.specs.declared.bounded.TextRefusal.{TextRefusal}
use Rattle.rv_base.specs.declared.bounded.TextRefusal.TheVariants.{TooShort, TooLong, Memory}

-- a text of at least low and at most high bytes
abbrev pub IsWithin : ℕ → ℕ → List ℕ → Type 0
IsWithin low high text = (low ≤ length text) × (length text ≤ high)

-- What a text is answered. Memory is asked for only where the text is within the bounds.
abbrev pub IsTextAnswer : ℕ → ℕ → List ℕ → Result (List ℕ) TextRefusal → Type 0
IsTextAnswer low high text (Ok taken) = (taken ≡ text) × IsWithin low high text
IsTextAnswer low high text (Err TooShort) = length text < low
IsTextAnswer low high text (Err (TooLong n)) = (n ≡ length text) × (high < length text) × (low ≤ length text)
IsTextAnswer low high text (Err Memory) = IsWithin low high text

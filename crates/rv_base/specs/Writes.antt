-- What a write of a whole text leaves.
use Rattle.std.specs.Prelude.{◌≡◌, ℕ, ◌<◌, List, ◌++◌, length, Result, MatchResult}
use Rattle.std.specs.declared.option.Option.{Option}
use Rattle.std.specs.Io.KnownBytes.{Appends}

-- The other begins with the one, and has more.
abbrev pub IsFront : List ℕ → List ℕ → Type 0
IsFront part text = (rest : List ℕ) × (text ≡ part ++ rest) × (0 < length rest)

-- a front of the text was appended
abbrev pub AppendsFront : Option (List ℕ) → Option (List ℕ) → List ℕ → Type 0
AppendsFront old new text = (part : List ℕ) × IsFront part text × Appends old new part

-- the whole text was appended at `Ok`, and a front of it at `Err`
abbrev pub WritesText : {T E : Type 0} → Option (List ℕ) → Option (List ℕ) → Result T E → List ℕ → Type 0
WritesText old new result text = MatchResult result (λ _. Appends old new text) (λ _. AppendsFront old new text)

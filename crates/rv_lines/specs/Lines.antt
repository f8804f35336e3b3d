-- The lines of bytes.
use Rattle.std.specs.Prelude.{ℕ, ◌≡◌, ◌+◌, ◌<◌, ◌||◌, List, [], ◌∷◌, length, take, if◌then◌else◌, ◌==◌, nat_lt, Bool, false}
use Rattle.std.specs.List.{list_any}

-- a byte before the first line; without a line it is one
abbrev pub onto : ℕ → List (List ℕ) → List (List ℕ)
onto byte [] = (byte ∷ []) ∷ []
onto byte (line ∷ lines) = (byte ∷ line) ∷ lines

-- a line ends at LF or at the end; nothing after the last LF is no line
abbrev pub lines_of : List ℕ → List (List ℕ)
lines_of [] = []
lines_of (byte ∷ bytes) = if byte == 10 then [] ∷ lines_of bytes else onto byte (lines_of bytes)

-- a byte before the first line; without a line it goes
abbrev pub onto_ended : ℕ → List (List ℕ) → List (List ℕ)
onto_ended byte [] = []
onto_ended byte (line ∷ lines) = (byte ∷ line) ∷ lines

-- the lines that end at LF
abbrev pub ended_lines_of : List ℕ → List (List ℕ)
ended_lines_of [] = []
ended_lines_of (byte ∷ bytes) = if byte == 10 then [] ∷ ended_lines_of bytes else onto_ended byte (ended_lines_of bytes)

-- an LF is among the bytes
abbrev pub has_lf : List ℕ → Bool
has_lf bytes = list_any (λ byte. byte == 10) bytes

abbrev pub HasNoLf : List ℕ → Type 0
HasNoLf bytes = has_lf bytes ≡ false

-- the most bytes of a line, its LF not counted
abbrev pub longest_line : ℕ
longest_line = 4195328

-- the first line is longer than a line may be
abbrev pub BeginsLong : List ℕ → Type 0
BeginsLong bytes = (longest_line < length bytes) × HasNoLf (take (longest_line + 1) bytes)

-- where the first line ends is known: at an LF, or since it is too long
abbrev pub holds_line : List ℕ → Bool
holds_line bytes = has_lf bytes || nat_lt longest_line (length bytes)

-- Jobs that were all worked on.
use Rattle.std.specs.Prelude.{◌≡◌, ℕ, ◌<◌, List, [], ◌∷◌, length, slice_index_or}

-- each job was worked on, and stands at its position
abbrev pub EachWorked : {J : Type 0} → (J → J → Type 0) → List J → List J → Type 0
EachWorked worked [] [] = Unit {0}
EachWorked worked (old ∷ olds) (new ∷ news) = worked old new × EachWorked worked olds news
EachWorked worked [] (new ∷ news) = ⊥
EachWorked worked (old ∷ olds) [] = ⊥

-- the same, position by position
pub record WorkedByPosition {J : Type 0} (worked : J → J → Type 0) (before after : List J) : Type 0 where
  pub count : length after ≡ length before
  pub each : (k : ℕ) (d : J) → k < length before → worked (slice_index_or before k d) (slice_index_or after k d)

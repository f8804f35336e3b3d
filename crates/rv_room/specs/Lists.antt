-- Words about lists that the room's definitions use.
use Rattle.std.specs.Prelude.{ℕ, zero, suc, ◌+◌, List, [], ◌∷◌, ◌==◌, if◌then◌else◌}

-- f of each of them, added up
abbrev pub total : {X : Type 0} → (X → ℕ) → List X → ℕ
total f [] = 0
total f (x ∷ xs) = f x + total f xs

-- 1 where both are the same, and else 0
abbrev pub hit : ℕ → ℕ → ℕ
hit n x = if n == x then 1 else 0

-- 1 where the number is below n, and else 0
abbrev pub once_below : ℕ → ℕ → ℕ
once_below x zero = 0
once_below x (suc n) = hit n x + once_below x n

-- how many of the pairs have this number
abbrev pub count_at : {X : Type 0} → ℕ → List (ℕ × X) → ℕ
count_at n [] = 0
count_at n (x ∷ xs) = hit x.0 n + count_at n xs

-- each with its number, from this one on
abbrev pub numbered : {X : Type 0} → ℕ → List X → List (ℕ × X)
numbered n [] = []
numbered n (x ∷ xs) = (n, x) ∷ numbered (n + 1) xs

-- Where a walk along a list in the order of keys has come to.
use Rattle.std.specs.Prelude.{ℕ, Bool, false, List, [], ◌∷◌, if◌then◌else◌}
use Rattle.std.specs.Ordering.{nat_cmp, is_lt}
use Rattle.std.specs.Cmp.Lexicographic.{slice_cmp}

-- the items from the first on whose key is not below k
abbrev pub rest_from : {X : Type 0} → (X → List ℕ) → List ℕ → List X → List X
rest_from key k [] = []
rest_from key k (x ∷ xs) = if is_lt (slice_cmp nat_cmp (key x) k) then rest_from key k xs else x ∷ xs

-- the first item is there and passes the test
abbrev pub begins_with : {X : Type 0} → (X → Bool) → List X → Bool
begins_with test [] = false
begins_with test (x ∷ xs) = test x

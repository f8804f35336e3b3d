-- Workers stand the other way round than their listeners.
use Rattle.std.specs.Prelude.{List, [], ◌∷◌, ◌++◌}

-- what f gives of each, the last one first
abbrev pub reversed : {X Y : Type 0} → (X → Y) → List X → List Y
reversed f [] = []
reversed f (x ∷ xs) = reversed f xs ++ f x ∷ []

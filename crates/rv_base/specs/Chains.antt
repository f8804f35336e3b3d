-- A chain of checks, which ends at the first that fails.
use Rattle.std.specs.Prelude.{Bool, List, [], ◌∷◌, Option, Some, None, Result, Ok, Err, if◌then◌else◌}

infixl 10 ◌>>=◌
abbrev pub ◌>>=◌ : {A B E : Type 0} → Result A E → (A → Result B E) → Result B E
(Ok x) >>= f = f x
(Err e) >>= f = Err e

-- what is there, or else this fault
abbrev pub need : {A E : Type 0} → E → Option A → Result A E
need e None = Err e
need e (Some x) = Ok x

-- the test holds, or else this fault
abbrev pub hold : {E : Type 0} → E → Bool → Result (Unit {0}) E
hold e b = if b then Ok tt else Err e

-- what f gives of each, up to the first fault
abbrev pub each : {A B E : Type 0} → (A → Result B E) → List A → Result (List B) E
each f [] = Ok []
each f (x ∷ xs) = f x >>= λ y. each f xs >>= λ ys. Ok (y ∷ ys)

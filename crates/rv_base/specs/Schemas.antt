-- Schema versions of the application.
use Rattle.std.specs.Prelude.{ℕ, List, [], ◌∷◌, codes}

-- those that are served where none are named: the empty one, `1` and `2`
abbrev pub first_schemas : List (List ℕ)
first_schemas = [] ∷ codes "1" ∷ codes "2" ∷ []

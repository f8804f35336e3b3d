-- Names: a letter and a number in decimal.
use Rattle.std.specs.Prelude.{ℕ, List, ◌++◌, codes, decimal}

abbrev pub lettered : List ℕ → ℕ → List ℕ
lettered letter number = letter ++ decimal number

-- the name of the user of this number
abbrev pub user_name : ℕ → List ℕ
user_name user = lettered (codes "u") user

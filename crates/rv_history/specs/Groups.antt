-- Whose a group is, and which group a client is of.
use Rattle.std.specs.Prelude.{◌≡◌, ℕ, Bool, false, not, List}
use Rattle.std.specs.Option.{option_map_or}
use Rattle.std.specs.Str.{bytes_eq}
use Rattle.rv_book.specs.Book.{Book, bound, retired, group_of}

-- the group is bound to another user
abbrev pub is_of_other : List ℕ → List ℕ → Book → Bool
is_of_other user group book = option_map_or (λ owner. not (bytes_eq owner user)) (bound group book) false

-- the client is of another group
abbrev pub is_elsewhere : List ℕ → List ℕ → Book → Bool
is_elsewhere client group book = option_map_or (λ other. not (bytes_eq other group)) (group_of client book) false

-- The user may use the group: it is bound to no other user, and is not retired.
pub record Admits (user group : List ℕ) (book : Book) : Type 0 where
  pub own : is_of_other user group book ≡ false
  pub stands : retired group book ≡ false

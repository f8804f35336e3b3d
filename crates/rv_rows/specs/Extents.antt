-- The lists that an extent names: at most 64 ids, each once, in the order of their bytes.
use Rattle.std.specs.Prelude.{ℕ, Bool, ◌≤◌, ◌&&◌, List, length, Option, Some, None, nat_le, if◌then◌else◌}
use Rattle.std.specs.Cmp.Lexicographic.{pointwise}
use Rattle.std.specs.Str.{bytes_eq}
use Rattle.rv_base.specs.Sorted.{InOrder, is_in_order, sorted_by}

-- such ids
abbrev pub AreLists : List (List ℕ) → Type 0
AreLists ids = InOrder (λ id. id) ids × (length ids ≤ 64)

-- the ids in order, each once, where at most 64 are given
abbrev pub lists_of : List (List ℕ) → Option (List (List ℕ))
lists_of ids = if nat_le (length ids) 64 then Some (sorted_by (λ id. id) ids) else None

-- the ids, where they are in order already and at most 64 are given
abbrev pub exact_lists : List (List ℕ) → Option (List (List ℕ))
exact_lists ids = if nat_le (length ids) 64 && is_in_order (λ id. id) ids then Some ids else None

-- the two have the same ids
abbrev pub same_lists : List (List ℕ) → List (List ℕ) → Bool
same_lists = pointwise bytes_eq

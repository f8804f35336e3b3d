-- Lists of items in the order of their keys' bytes, each key once.
use Rattle.std.specs.Prelude.{◌≡◌, Bool, true, false, ◌&&◌, ℕ, suc, ◌<◌, ◌≤◌, List, [], ◌∷◌, ◌++◌, length, take, drop, slice_set, slice_index_or, Option, Some, None, Result, Ok, Err, if◌then◌else◌, not, fold}
use Rattle.std.specs.declared.cmp.Ordering.TheVariants.{Less}
use Rattle.std.specs.Ordering.{nat_cmp, match_ordering}
use Rattle.std.specs.Cmp.Lexicographic.{slice_cmp}
use Rattle.std.specs.List.{filter, AllByRecursion}
use Rattle.std.specs.Str.{bytes_eq}

-- two keys, one below the other
abbrev pub Below : List ℕ → List ℕ → Type 0
Below a b = slice_cmp nat_cmp a b ≡ Less

module _ {X : Type 0} (key : X → List ℕ) where
  -- the item that has the key
  abbrev pub find_by : List ℕ → List X → Option X
  find_by k [] = None
  find_by k (x ∷ xs) = if bytes_eq k (key x) then Some x else find_by k xs

  -- the items whose key is another
  abbrev pub without : List ℕ → List X → List X
  without k xs = filter (λ x. not (bytes_eq k (key x))) xs

  -- the item in its place, in the place of one that has its key
  abbrev pub put_by : X → List X → List X
  put_by x [] = x ∷ []
  put_by x (y ∷ ys) = match_ordering (slice_cmp nat_cmp (key x) (key y)) (x ∷ y ∷ ys) (x ∷ ys) (y ∷ put_by x ys)

  -- each key is below all later ones
  abbrev pub InOrder : List X → Type 0
  InOrder [] = Unit {0}
  InOrder (x ∷ xs) = AllByRecursion (λ y. slice_cmp nat_cmp (key x) (key y) ≡ Less) xs × InOrder xs

  -- where the item of the key k stands, or where it would go, and what an edit there leaves
  abbrev pub IsPositionOf : List ℕ → List X → Result ℕ ℕ → Type 0
  IsPositionOf k xs (Ok i) = record {
    in_range : i < length xs;
    found : (d : X) → find_by k xs ≡ Some (slice_index_or xs i d);
    removed : without k xs ≡ take i xs ++ drop (suc i) xs;
    removed_order : InOrder (take i xs ++ drop (suc i) xs);
    written : (new : X) → key new ≡ k → put_by new xs ≡ slice_set xs i new;
    written_order : (new : X) → key new ≡ k → InOrder (slice_set xs i new);
  }
  IsPositionOf k xs (Err i) = record {
    in_range : i ≤ length xs;
    absent : find_by k xs ≡ None;
    unmoved : without k xs ≡ xs;
    inserted : (new : X) → key new ≡ k → put_by new xs ≡ take i xs ++ new ∷ drop i xs;
    inserted_order : (new : X) → key new ≡ k → InOrder (take i xs ++ new ∷ drop i xs);
  }

  -- the items in order; of two with one key the later
  abbrev pub sorted_by : List X → List X
  sorted_by xs = fold (λ sorted x. put_by x sorted) [] xs

  -- no two items have one key
  abbrev pub Distinct : List X → Type 0
  Distinct [] = Unit {0}
  Distinct (x ∷ xs) = (find_by (key x) xs ≡ None) × Distinct xs

  -- each key is below the next, as a test
  abbrev pub is_below : X → X → Bool
  is_below x y = match_ordering (slice_cmp nat_cmp (key x) (key y)) true false false

  abbrev pub rises_from : X → List X → Bool
  rises_from x [] = true
  rises_from x (y ∷ ys) = is_below x y && rises_from y ys

  abbrev pub is_in_order : List X → Bool
  is_in_order [] = true
  is_in_order (x ∷ xs) = rises_from x xs

-- Rows of several lists, gathered in the order of their keys.
use Rattle.std.specs.Prelude.{◌≡◌, ℕ, List, length, map, sum_by, Some}
use Rattle.std.specs.Borrow.{Bor}
use Rattle.std.specs.List.{AllByRecursion, filter, fold}
use Rattle.rv_rows.specs.declared.key.Key.{Key}
use Rattle.rv_rows.specs.declared.row.Row.{Row}
use Rattle.rv_rows.specs.Keys.{row_key}
use Rattle.rv_rows.specs.Held.{Stored, find, put, stored_key}
use Rattle.rv_rows.specs.Sharing.{belongs, is_extent}

-- the rows that references point to
abbrev pub rows_at : List (Bor Row × ℕ) → List Stored
rows_at rows = map (λ row. (row.0.now, row.1)) rows

-- the rows of both in the order of their keys; of two with one key that of the left
abbrev pub merged : List Stored → List Stored → List Stored
merged left right = fold (λ rows s. put s rows) right left

-- the keys of the rows that references point to, each with the version of its row
abbrev pub keys_at : List (Bor Row × ℕ) → List (Key × ℕ)
keys_at rows = map (λ row. (row_key row.0.now, row.1)) rows

-- the rows of a list
abbrev pub of_list : List ℕ → List Stored → List Stored
of_list list stored = filter (λ s. belongs list s.0) stored

-- the user's extent
abbrev pub extents : List ℕ → List Stored → List Stored
extents user stored = filter (λ s. is_extent user s.0) stored

-- how many rows are read where each of these lists is, one after another
abbrev pub rows_in_lists : List (List ℕ) → List Stored → ℕ
rows_in_lists lists stored = sum_by (λ list. length (of_list list stored)) lists

-- each of these rows is the one that is stored under its key
abbrev pub Stand : List Stored → List Stored → Type 0
Stand stored rows = AllByRecursion (λ s. find (stored_key s) stored ≡ Some s) rows

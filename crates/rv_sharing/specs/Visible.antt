-- The keys that a user sees in a table, in order, each with the version of its row.
use Rattle.std.specs.Prelude.{ℕ, List, map}
use Rattle.std.specs.List.{filter}
use Rattle.rv_rows.specs.declared.key.Key.{Key}
use Rattle.rv_rows.specs.Keys.{row_key}
use Rattle.rv_rows.specs.Held.{Stored, rows_in}
use Rattle.rv_rows.specs.Sharing.{sees_row}

abbrev pub visible : List ℕ → List Stored → List (Key × ℕ)
visible user stored = map (λ s. (row_key s.0, s.1)) (filter (λ s. sees_row user (rows_in stored) s.0) stored)

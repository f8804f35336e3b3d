-- The rows of a table without their versions: they stand in the order of their keys, and no two have one key.
use Rattle.std.specs.Prelude.{ℕ, List, [], ◌∷◌}
use Rattle.rv_base.specs.Sorted.{InOrder, Distinct}
use Rattle.rv_base.specs.PositionLaws.{Above}
use Rattle.rv_base.specs.ArrangedLaws.{distinct-in_order}
use Rattle.rv_rows.specs.Keys.{row_text}
use Rattle.rv_rows.specs.Held.{Stored, stored_key, rows_in, AreRows}

above-rows : (k : List ℕ) (stored : List Stored) → Above stored_key k stored → Above row_text k (rows_in stored)
above-rows k [] h = tt
above-rows k (s ∷ stored) h = (h.0, above-rows k stored h.1)

pub in_order-rows : (stored : List Stored) → AreRows stored → InOrder row_text (rows_in stored)
in_order-rows [] h = tt
in_order-rows (s ∷ stored) h = (above-rows (row_text s.0) stored h.0, in_order-rows stored h.1)

pub distinct-rows : (stored : List Stored) → AreRows stored → Distinct row_text (rows_in stored)
distinct-rows stored h = distinct-in_order row_text (rows_in stored) (in_order-rows stored h)

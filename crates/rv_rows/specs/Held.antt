-- A table as its rows with their versions, in key order, and the space that it has beside.
use Rattle.std.specs.Prelude.{ℕ, List, Option, map}
use Rattle.rv_rows.specs.declared.row.Row.{Row}
use Rattle.rv_rows.specs.Keys.{row_text}
use Rattle.rv_base.specs.Sorted.{find_by, without, put_by, InOrder}

abbrev pub Stored : Type 0
Stored = Row × ℕ

pub record Held : Type 0 where
  pub rows : List Stored
  pub spare : ℕ

abbrev pub stored_key : Stored → List ℕ
stored_key s = row_text s.0

-- the rows alone
abbrev pub rows_in : List Stored → List Row
rows_in = map (λ s. s.0)

abbrev pub AreRows : List Stored → Type 0
AreRows = InOrder stored_key

abbrev pub find : List ℕ → List Stored → Option Stored
find = find_by stored_key

abbrev pub put : Stored → List Stored → List Stored
put = put_by stored_key

abbrev pub remove : List ℕ → List Stored → List Stored
remove = without stored_key

-- What a row of the table stands for, by its shelf, its key and its body.
use Rattle.std.specs.Prelude.{◌≡◌, ◌≢◌, ℕ, ℤ, pos, ◌<◌, ◌^◌, List, [], decimal, Option, Some, None}
use Rattle.sqlite_value.specs.declared.value.Value.TheVariants.{Int, Blob}
use Rattle.sqlite_value.specs.Order.{Row, column}
use Rattle.rv_sqlite.specs.declared.row_read.RowRead.{RowRead}
use Rattle.rv_sqlite.specs.declared.row_read.RowRead.TheVariants.{Cell, Generation}

-- the number below 2^64 whose decimal text this is, without leading zeros; none, where there is none
abbrev pub IsNumber : List ℕ → Option ℕ → Type 0
IsNumber text (Some number) = text ≡ decimal number
IsNumber text None = (number : ℕ) → number < 2 ^ 64 → text ≢ decimal number

-- no row of a store is so: the shelf is none of 0 to 255, or it is 0 and the key is not empty or the body is no number
pub record IsNoRow (shelf : ℤ) (key body : List ℕ) : Type 0 where
  pub no_cell : (number : ℕ) → 0 < number → number < 256 → shelf ≢ pos number
  pub no_generation : shelf ≡ pos 0 → key ≡ [] → IsNumber body None

-- A row stands for the cell of its shelf, from 1 to 255. On shelf 0 stands the generation alone, under the empty key.
abbrev pub IsRow : ℤ → List ℕ → List ℕ → Option RowRead → Type 0
IsRow shelf key body (Some (Cell cell)) = (shelf ≡ pos cell.shelf) × (0 < cell.shelf) × (cell.key ≡ key) × (cell.body ≡ body)
IsRow shelf key body (Some (Generation number)) = (shelf ≡ pos 0) × (key ≡ []) × IsNumber body (Some number)
IsRow shelf key body None = IsNoRow shelf key body

-- the row's columns are a whole number, a key and a body that stand for this
pub record Shows (row : Row) (read : RowRead) : Type 0 where
  pub shelf : ℤ
  pub key : List ℕ
  pub body : List ℕ
  pub shelf_is : column row 0 ≡ Int shelf
  pub key_is : column row 1 ≡ Blob key
  pub body_is : column row 2 ≡ Blob body
  pub stands : IsRow shelf key body (Some read)

-- the row's first column is the decimal text of the number
abbrev pub ShowsNumber : Row → ℕ → Type 0
ShowsNumber row number = column row 0 ≡ Blob (decimal number)

-- A view as CSV, and what a text is read as. The first record is `key,value`, and each row has a record, in the order of their
-- keys: the text of its key, and its own as compact JSON.
use Rattle.std.specs.Prelude.{◌≡◌, ℕ, suc, List, [], ◌∷◌, ◌++◌, length, map, codes, ◌⊎◌, Result, Ok, Err}
use Rattle.std.specs.List.{AllByRecursion}
use Rattle.serde_json.specs.Written.{compact_text}
use Rattle.rv_base.specs.Sorted.{InOrder}
use Rattle.rv_rows.specs.declared.row.Row.{Row}
use Rattle.rv_rows.specs.Keys.{row_text}
use Rattle.rv_rows.specs.RowTexts.{row_data, RowIsWithin}
use Rattle.rv_record.specs.RowReading.{HasTexts}
use Rattle.rv_csv.specs.Records.{Record, records_of, csv_text}
use Rattle.rv_csv.specs.declared.view_fault.ViewFault.{ViewFault}
use Rattle.rv_csv.specs.declared.view_fault.ViewFault.TheVariants.{BadRecord, Memory}

-- the row's texts are UTF-8 and within their bounds, as those of every row are
abbrev pub IsRow : Row → Type 0
IsRow row = RowIsWithin row × HasTexts row

-- rows in the order of their keys, each key once
abbrev pub IsView : List Row → Type 0
IsView rows = AllByRecursion IsRow rows × InOrder row_text rows

abbrev pub header : Record
header = codes "key" ∷ codes "value" ∷ []

-- the text of the row's key, and the row's own as compact JSON
abbrev pub row_record : Row → Record
row_record row = row_text row ∷ compact_text (row_data row) ∷ []

-- the header, and the record of each row
abbrev pub view_records : List Row → List Record
view_records rows = header ∷ map row_record rows

abbrev pub view_text : List Row → List ℕ
view_text rows = csv_text (view_records rows)

-- the record is that of no row that may come after these
abbrev pub CantFollow : List Row → Record → Type 0
CantFollow rows fields = (row : Row) → IsView (rows ++ row ∷ []) → ¬ (fields ≡ row_record row)

-- the records do not begin with the header
abbrev pub HasNoHeader : List Record → Type 0
HasNoHeader records = (rest : List Record) → ¬ (records ≡ header ∷ rest)

-- After the header and the records of so many rows less one stands a record that can't follow. The header has number 0.
pub record IsBadAfter (n : ℕ) (records : List Record) : Type 0 where
  pub rows : List Row
  pub bad : Record
  pub rest : List Record
  pub number : n ≡ suc (length rows)
  pub before : IsView rows
  pub whole : records ≡ view_records rows ++ bad ∷ rest
  pub first : CantFollow rows bad

-- the record of this number, from 0, is the first that a view's text does not have there
abbrev pub IsBadAt : ℕ → List Record → Type 0
IsBadAt n records = ((n ≡ 0) × HasNoHeader records) ⊎ IsBadAfter n records

-- What reading a view answers: the rows whose records these are; or the first record that is not of the form; or that memory was
-- refused, which may come at any bytes.
abbrev pub ReadsView : List ℕ → Result (List Row) ViewFault → Type 0
ReadsView bytes (Ok rows) = IsView rows × (records_of bytes ≡ view_records rows)
ReadsView bytes (Err (BadRecord n)) = IsBadAt n (records_of bytes)
ReadsView bytes (Err Memory) = Unit {0}

-- these rows are answered, unless memory was refused
abbrev pub GivesRows : List Row → Result (List Row) ViewFault → Type 0
GivesRows rows (Ok given) = given ≡ rows
GivesRows rows (Err (BadRecord n)) = ⊥
GivesRows rows (Err Memory) = Unit {0}

-- this record is blamed, unless memory was refused
abbrev pub BlamesRecord : ℕ → Result (List Row) ViewFault → Type 0
BlamesRecord n (Ok rows) = ⊥
BlamesRecord n (Err (BadRecord blamed)) = blamed ≡ n
BlamesRecord n (Err Memory) = Unit {0}

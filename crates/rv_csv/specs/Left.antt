-- The records that a reader over bytes in memory has left.
use Rattle.std.specs.Prelude.{◌≡◌, ℕ, ◌+◌, Bool, true, false, List, [], ◌∷◌, ◌++◌, suc, length, Option, Some, None, Result, Ok, Err}
use Rattle.std.specs.Borrow.{Bor}
use Rattle.csv.specs.Machine.{ends_at_end}
use Rattle.csv.specs.Reading.{Ready, default_config, is_flexible, reader_config, reader_state, reader_trim, records_from, source_of}
use Rattle.csv.specs.declared.parser.State.{State}
use Rattle.csv.specs.declared.reader.Reader.{Reader}
use Rattle.csv.specs.declared.reader.Trim.TheVariants as trim
use Rattle.rv_csv.specs.Records.{Record}
use Rattle.rv_csv.specs.Views.{header, row_record, IsView, CantFollow, HasNoHeader}
use Rattle.rv_csv.specs.declared.view_fault.ViewFault.{ViewFault}
use Rattle.rv_csv.specs.declared.view_fault.ViewFault.TheVariants.{BadRecord, Memory}
use Rattle.rv_rows.specs.declared.row.Row.{Row}

abbrev pub SliceReader : Type 0
SliceReader = Reader (Bor (List ℕ))

-- the bytes that it has left, where it has not failed
abbrev pub bytes_left : SliceReader → Option (List ℕ)
bytes_left reader = source_of (λ (slice : Bor (List ℕ)). Some slice.now) reader

-- the records of the bytes, where there are some
abbrev pub records_in : State → Option (List ℕ) → List Record
records_in state None = []
records_in state (Some bytes) = records_from default_config (length bytes + 1) state bytes

-- the records that are left, where reading is not over
abbrev pub left_in : Bool → SliceReader → List Record
left_in true reader = []
left_in false reader = records_in (reader_state reader) (bytes_left reader)

-- it reads as `csv` does by default, but takes records of any number of fields, and stands between two records
pub record StandsBetween (reader : SliceReader) : Type 0 where
  pub config : reader_config reader ≡ default_config
  pub trim : reader_trim reader ≡ trim.None
  pub ready : Ready reader
  pub flexible : is_flexible reader ≡ true
  pub bytes : List ℕ
  pub known : bytes_left reader ≡ Some bytes
  pub between : ends_at_end (reader_state reader) ≡ false

-- the record was the first of those that were left, or there was none
abbrev pub Takes : Bool → Record → List Record → List Record → Type 0
Takes true fields old new = old ≡ fields ∷ new
Takes false fields old new = old ≡ []

-- the header was the first of those that were left, or else another was, or none
abbrev pub HasHeader : Bool → List Record → List Record → Type 0
HasHeader true old new = old ≡ header ∷ new
HasHeader false old new = HasNoHeader old

-- the next record is of a row that may come after these, or it can't follow them, or there is none
abbrev pub NextRow : List Row → List Record → List Record → Result (Option Row) ViewFault → Type 0
NextRow rows old new (Ok (Some row)) = IsView (rows ++ row ∷ []) × (old ≡ row_record row ∷ new)
NextRow rows old new (Ok None) = old ≡ []
NextRow rows old new (Err (BadRecord n)) = (n ≡ suc (length rows)) × (bad : Record) × (old ≡ bad ∷ new) × CantFollow rows bad
NextRow rows old new (Err Memory) = Unit {0}

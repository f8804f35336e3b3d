-- The records of a CSV text, and the text of records.
use Rattle.std.specs.Prelude.{ℕ, List, [], ◌∷◌, ◌++◌}
use Rattle.csv.specs.Reading.{default_config, records, strip_bom}
use Rattle.csv.specs.Writing.{default_writer, row_text}

-- a record is the list of its fields, and a field the list of its bytes
abbrev pub Record : Type 0
Record = List (List ℕ)

-- The records of these bytes, as `csv`'s reader reads them by default: fields between commas, quoted where they need it, a record
-- on each line that is not empty, and a byte order mark at the start passed over. The first record is one like the others.
abbrev pub records_of : List ℕ → List Record
records_of bytes = records default_config (strip_bom bytes)

-- the text of records, as `csv`'s writer writes them by default, one after another
abbrev pub csv_text : List Record → List ℕ
csv_text [] = []
csv_text (fields ∷ rest) = row_text default_writer fields ++ csv_text rest

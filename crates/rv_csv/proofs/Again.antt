-- What the text of a view is read as.
use Rattle.std.proofs.Common.{◌≡◌, ℕ, ◌+◌, ◌<◌, zero, suc, List, [], ◌∷◌, ◌++◌, length, map, refl, ap, ◌∙◌, arith}
use Rattle.std.specs.List.{AllByRecursion}
use Rattle.csv.specs.Machine.{next_record}
use Rattle.csv.specs.Reading.{default_config, records_from, records_next, strip_bom}
use Rattle.csv.specs.Writing.{default_writer, escaped, fields_text, is_blank, read_back, row_text}
use Rattle.csv.specs.declared.parser.State.TheVariants as st
use Rattle.csv.proofs.RoundTrip.{read-write}
use Rattle.rv_rows.specs.declared.row.Row.{Row}
use Rattle.rv_csv.specs.Records.{Record, records_of, csv_text}
use Rattle.rv_csv.specs.Views.{header, row_record, view_records, view_text}
use Rattle.rv_csv.proofs.RecordLaws.{enough}

-- records that have fields are read back, by any count above theirs
records_again : (rs : List Record) (n : ℕ) → AllByRecursion (λ r. read_back r ≡ r) rs → length rs < n → records_from default_config n st.StartRecord (csv_text rs) ≡ rs
unfolding records_from next_record
records_again rs zero have less = absurd (omega (arith, less))
records_again [] (suc n) have less = refl
records_again (r ∷ rs) (suc n) have less =
    ap (records_next (records_from default_config n)) (read-write r (csv_text rs))
    ∙ ap (λ (t : List Record). read_back r ∷ t) (records_again rs n have.1 (omega (arith, less)))
    ∙ ap (λ (f : Record). f ∷ rs) have.0

rows_have : (rows : List Row) → AllByRecursion (λ (r : Record). read_back r ≡ r) (map row_record rows)
rows_have [] = tt
rows_have (row ∷ rows) = (refl, rows_have rows)

-- the text begins with no byte order mark
no_mark : (rest : List ℕ) → strip_bom (row_text default_writer header ++ rest) ≡ row_text default_writer header ++ rest
unfolding strip_bom fields_text is_blank escaped
no_mark rest = refl

pub view_again : (rows : List Row) → records_of (view_text rows) ≡ view_records rows
view_again rows =
    let text = view_text rows in
    let size = length text + 1 + length (view_records rows) in
    ap (λ (bytes : List ℕ). records_from default_config (length bytes + 1) st.StartRecord bytes) (no_mark (csv_text (map row_record rows)))
    ∙ enough (length text + 1) size st.StartRecord text refl (omega arith) (omega arith)
    ∙ records_again (view_records rows) size (refl, rows_have rows) (omega arith)

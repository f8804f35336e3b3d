-- What a writer of CSV over a vector has written.
use Rattle.std.specs.Prelude.{◌≡◌, ℕ, false, List, Some}
use Rattle.csv.specs.Writing.{default_writer, fields_written, has_written, text_written, writer_setup}
use Rattle.csv.specs.declared.writer.Writer.{Writer}

-- it writes as `csv` does by default, stands between two records, and has written this text
pub record HasWritten {A : Type 0} (contents : A → List ℕ) (writer : Writer A) (text : List ℕ) : Type 0 where
  pub setup : writer_setup writer ≡ default_writer
  pub fields : fields_written writer ≡ 0
  pub wrote : has_written writer ≡ false
  pub holds : text_written (λ vec. Some (contents vec)) writer ≡ Some text

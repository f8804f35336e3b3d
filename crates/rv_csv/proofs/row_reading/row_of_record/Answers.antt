use Rattle.std.proofs.Common.{◌∙◌, ap₂}
use Rattle.csv.specs.Records.{fields_of}
use Rattle.rv_rows.specs.Keys.{key_text}
use Rattle.rv_csv.proofs.RowTextLaws.{other_key}
use Rattle.rv_csv.proofs.row_reading.row_of_record.Goals as goal

pub returns-else-is_same-clause-none : goal.returns-else-is_same-clause-none
returns-else-is_same-clause-none c =
    let found = rw c.in-Some-2.is at c.in_ok-row.ensures.found in
    let remade = c.as_bytes.ensures.value ∙ c.in_ok-own.ensures ∙ ap₂ (λ k i. key_text (record { kind = k; id = i })) c.kind.ensures c.id.ensures in
    other_key (fields_of c.args.fields.now) c.in-Some.key.now c.in-Some.value.now c.as_bytes.result.now c.in-Some-2.row c.is_same.result c.in-Some.ensures.found found.0 found.1 remade c.if-is_same.false c.is_same.ensures.1

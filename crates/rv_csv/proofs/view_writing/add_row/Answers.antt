use Rattle.std.proofs.Common.{◌∙◌, ◌∷◌, ◌++◌, [], ℕ, List, Vec, Global, ap₂, subst}
use Rattle.std.specs.Prelude.{OnOk}
use Rattle.csv.specs.Writing.{default_writer, row_text}
use Rattle.rv_rows.specs.Keys.{key_text}
use Rattle.rv_csv.specs.Records.{Record}
use Rattle.rv_csv.specs.Writing.{HasWritten}
use Rattle.rv_csv.proofs.view_writing.add_row.Goals as goal

pub returns-clause-written : goal.returns-clause-written
returns-clause-written c =
    let key = c.as_bytes.ensures.value ∙ c.in_ok-key.ensures ∙ ap₂ (λ k i. key_text (record { kind = k; id = i })) c.kind.ensures c.id.ensures in
    let value = c.deref.ensures.value ∙ c.in_ok-value.ensures in
    subst (λ (fields : Record). OnOk c.add_record.result ((text : List ℕ) → HasWritten {A = Vec ℕ Global} (λ v. v.items) c.args.out.now text → HasWritten {A = Vec ℕ Global} (λ v. v.items) c.add_record.new.out (text ++ row_text default_writer fields)))
    (ap₂ (λ (k v : List ℕ). k ∷ v ∷ []) key value) c.add_record.ensures

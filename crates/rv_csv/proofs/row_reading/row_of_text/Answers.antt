use Rattle.std.proofs.Common.{◌∙◌, sym}
use Rattle.std.proofs.lemmas.Bool.{false≢true}
use Rattle.rv_csv.proofs.RowTextLaws.{of_none, of_other}
use Rattle.rv_csv.proofs.row_reading.row_of_text.Goals as goal

pub returns-in_default-clause-none : goal.returns-in_default-clause-none
returns-in_default-clause-none c = of_none c.args.text.now c.in_ok-row.field-0 c.in_default.is c.in_ok-row.ensures

pub returns-else-is_same-clause-none : goal.returns-else-is_same-clause-none
returns-else-is_same-clause-none c = of_other c.args.text.now c.in_ok-row.field-0 c.in-Some.row c.in-Some.is c.in_ok-row.ensures (λ same.
    false≢true (sym c.if-is_same.false ∙ c.is_same.ensures.1 (same ∙ sym c.in_ok-again.ensures ∙ sym c.as_slice.ensures.value)))

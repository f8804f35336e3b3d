use Rattle.std.proofs.Common.{◌≡◌, ◌∙◌, ap, Option, Some, Result, Ok, Err}
use Rattle.std.specs.Prelude.{IfOk, IfSome}
use Rattle.serde_json.specs.Data.{Data}
use Rattle.rv_rows.specs.declared.row.Row.{Row}
use Rattle.rv_rows.specs.RowTexts.{row_data, RowIsWithin}
use Rattle.rv_rows.specs.RowTexts.{row_in}
use Rattle.rv_rows.proofs.RowLaws.{row_again, is_found}
use Rattle.rv_rows.proofs.row_reading.read_row.Goals as goal

found_by : {E : Type 0} (d : Data) (r : Result (Option Row) E) → IfOk r (λ o. o ≡ row_in d) → IfOk r (λ o. IfSome o (λ r. (d ≡ row_data r) × RowIsWithin r))
found_by d (Ok o) e = is_found d o e
found_by d (Err x) e = tt

only_by : {E : Type 0} (d : Data) (r : Result (Option Row) E) → IfOk r (λ o. o ≡ row_in d) → IfOk r (λ o. (r : Row) → RowIsWithin r → d ≡ row_data r → o ≡ Some r)
only_by d (Ok o) e = λ r fits is. e ∙ ap row_in is ∙ row_again r fits
only_by d (Err x) e = tt

pub returns-clause-found : goal.returns-clause-found
returns-clause-found c = found_by _ _ c.row_of.ensures

pub returns-clause-only : goal.returns-clause-only
returns-clause-only c = only_by _ _ c.row_of.ensures

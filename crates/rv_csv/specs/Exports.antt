-- What reads a view's text gives its rows again.
use Rattle.std.specs.Prelude.{ℕ, List, Result}
use Rattle.rv_rows.specs.declared.row.Row.{Row}
use Rattle.rv_csv.specs.Views.{ReadsView, GivesRows}
use Rattle.rv_csv.specs.declared.view_fault.ViewFault.{ViewFault}

-- whatever answers what the text is as a view answers these rows, unless memory was refused
abbrev pub ReadsBack : List Row → List ℕ → Type 0
ReadsBack rows text = (answer : Result (List Row) ViewFault) → ReadsView text answer → GivesRows rows answer

-- The lines of the lists' report, of counts.
use Rattle.std.specs.Prelude.{ℕ, List, ◌++◌, codes, decimal}
use Rattle.rv_rows.specs.declared.row.ListRow.{ListRow}
use Rattle.rv_report.specs.declared.counts.Counts.{Counts}
use Rattle.rv_report.specs.Texts.{quoted}
use Rattle.rv_report.specs.Lists.{counts_text}

abbrev pub counts_line : Counts → List ℕ
counts_line own = counts_text own.todos own.incomplete own.shares

-- the line of a list, which has these rows of its own
abbrev pub list_line : ListRow → Counts → List ℕ
list_line list own =
    quoted list.id ++ (codes " " ++ (quoted list.owner ++ (codes " " ++ (quoted list.name ++ (codes " " ++ counts_line own)))))

abbrev pub totals_line : Counts → List ℕ
totals_line all =
    codes "lists " ++ (decimal all.lists ++ (codes " todos " ++ (decimal all.todos ++ (codes " shares " ++ (decimal all.shares ++ codes "\n")))))

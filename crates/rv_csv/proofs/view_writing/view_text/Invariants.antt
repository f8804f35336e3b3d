use Rattle.std.proofs.Common.{◌≡◌, ℕ, List, ◌++◌, drop, map}
use Rattle.std.specs.List.{AllByRecursion}
use Rattle.rv_csv.specs.Views.{view_text, IsRow}
use Rattle.rv_csv.specs.Writing.{HasWritten}
use Rattle.rv_csv.proofs.WriterLaws.{rows_csv}
use Rattle.rv_csv.proofs.view_writing.view_text.Given as goal

-- what is written, and the text of the rows that are left; where those are rows all are
abbrev pub invariant-loop-pair : goal.invariant-loop-pair
invariant-loop-pair l = record {
  text : (text : List ℕ) × HasWritten (λ v. v.items) l.out text × (text ++ rows_csv (drop l.pair-index l.rows) ≡ view_text (map (λ pair. pair.0.now) l.rows));
  rows : AllByRecursion IsRow (map (λ pair. pair.0.now) (drop l.pair-index l.rows)) → AllByRecursion IsRow (map (λ pair. pair.0.now) l.rows);
}

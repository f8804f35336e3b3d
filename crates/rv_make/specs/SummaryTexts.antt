-- A summary as a line: requests N acted A skipped S looks L same M entries E rows R, and LF.
use Rattle.std.specs.Prelude.{ℕ, List, ◌++◌, codes, decimal}
use Rattle.rv_make.specs.declared.summary.Summary.{Summary}

-- a word and a number
abbrev pub counted_text : List ℕ → ℕ → List ℕ
counted_text word number = word ++ decimal number

abbrev pub summary_text : Summary → List ℕ
summary_text s =
    counted_text (codes "requests ") s.requests ++ (counted_text (codes " acted ") s.acted ++ (counted_text (codes " skipped ") s.skipped
    ++ (counted_text (codes " looks ") s.looks ++ (counted_text (codes " same ") s.same
    ++ (counted_text (codes " entries ") s.entries ++ (counted_text (codes " rows ") s.rows ++ codes "\n"))))))

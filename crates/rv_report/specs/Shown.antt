-- Maps and sets whose keys are lent, as lists of what they show.
use Rattle.std.specs.Prelude.{ℕ, List, map}
use denote.Ref.{Bor}
use Rattle.rv_report.specs.declared.tally.Tally.{Tally}

abbrev pub shown_users : List (Bor (List ℕ) × Tally) → List (List ℕ × Tally)
shown_users entries = map (λ entry. (entry.0.now, entry.1)) entries

abbrev pub shown_groups : List (Bor (List ℕ)) → List (List ℕ)
shown_groups groups = map (λ group. group.now) groups

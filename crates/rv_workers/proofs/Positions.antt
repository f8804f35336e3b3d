-- What holds position by position holds along the lists.
use Rattle.std.proofs.Common.{suc, List, [], ◌∷◌, arith}
use Rattle.rv_workers.specs.Jobs.{EachWorked, WorkedByPosition}

pub each_worked : {J : Type 0} (worked : J → J → Type 0) (before after : List J) → WorkedByPosition worked before after → EachWorked worked before after
each_worked worked [] [] by = tt
each_worked worked [] (new ∷ news) by = let c = by.count in absurd (omega arith)
each_worked worked (old ∷ olds) [] by = let c = by.count in absurd (omega arith)
each_worked worked (old ∷ olds) (new ∷ news) by = (by.each 0 old (omega arith), each_worked worked olds news (record { count = let c = by.count in omega arith; each = λ k d below. by.each (suc k) d (omega arith) }))

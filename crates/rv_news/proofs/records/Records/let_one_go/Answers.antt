use Rattle.std.proofs.Common.{◌≡◌, true, List, [], ◌∷◌, refl, sym, ap}
use Rattle.std.specs.List.{filter}
use Rattle.rv_news.specs.Records.{Placed}
use Rattle.rv_news.proofs.records.Records.let_one_go.Goals as goal

-- without a place all stay
all_stay : (records : List Placed) → filter (λ r. true) records ≡ records
all_stay [] = refl
all_stay (r ∷ records) = ap (λ (rest : List Placed). r ∷ rest) (all_stay records)

pub returns-in-None-clause-records : goal.returns-in-None-clause-records
returns-in-None-clause-records c = rw c.in-None.is (sym (all_stay c.args.self.now.records))

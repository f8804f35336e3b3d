-- What is said of a list is said of its own rows.
use Rattle.std.proofs.Common.{◌≡◌, ℕ, List, map, sym, ap}
use Rattle.std.specs.List.{filter}
use Rattle.rv_rows.specs.Keys.{row_key}
use Rattle.rv_rows.specs.Held.{Stored, rows_in}
use Rattle.rv_rows.specs.Sharing.{belongs}
use Rattle.rv_mutators.proofs.Picked.{filter-map}

pub own-keys : (list : List ℕ) (stored : List Stored) → map row_key (rows_in (filter (λ s. belongs list s.0) stored)) ≡ map row_key (filter (belongs list) (rows_in stored))
own-keys list stored = ap (map row_key) (sym (filter-map (belongs list) (λ (s : Stored). s.0) stored))

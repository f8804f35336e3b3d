-- Changes that write cells.
use Rattle.std.specs.Prelude.{ℕ, Bool, true, false, List, length}
use Rattle.std.specs.List.{filter}
use Rattle.rv_keeper.specs.declared.change.Change.{Change}
use Rattle.rv_keeper.specs.declared.change.Change.TheVariants.{Put, Remove}

-- the change writes a cell
abbrev pub is_put : Change → Bool
is_put (Put cell) = true
is_put (Remove shelf key) = false

-- how many of the changes write a cell
abbrev pub puts : List Change → ℕ
puts changes = length (filter is_put changes)

-- What the keeper asks of the table and is told, in the words of the crate `sqlite`: true where the disk gave back what was written.
use Rattle.std.specs.Prelude.{◌≡◌, ◌⊎◌, ℕ, pos, List, [], ◌∷◌, Option, Some, None, Ok, Err, codes}
use Rattle.sqlite_value.specs.declared.value.Value.TheVariants.{Int, Blob}
use Rattle.sqlite_value.specs.Order.{Row}
use Rattle.sqlite_trees.specs.declared.store.Store.{Ghosts}
use Rattle.sqlite.specs.State.{State, QueriesRow}
use Rattle.sqlite.specs.Held.{Held, state}
use Rattle.sqlite.specs.declared.error.Error.TheVariants.{QueryReturnedNoRows}
use Rattle.rv_sqlite.specs.Rows.{ShowsNumber}

abbrev pub one_text : List ℕ
one_text = codes "SELECT body FROM cell WHERE shelf = ?1 AND k = ?2"

-- the generation's shelf, and its key, which is empty
abbrev pub generation_key : Row
generation_key = Int (pos 0) ∷ Blob [] ∷ []

-- the row of the generation, if there is one
abbrev pub FindsRow : State → State → Option Row → Type 0
FindsRow old new (Some row) = QueriesRow one_text generation_key old new (Ok row)
FindsRow old new None = QueriesRow one_text generation_key old new (Err QueryReturnedNoRows)

-- the number in the row of the generation, or 0 where there is none
abbrev pub FindsNumber : State → State → ℕ → Type 0
FindsNumber old new number = ((row : Row) × FindsRow old new (Some row) × ShowsNumber row number) ⊎ (FindsRow old new None × (number ≡ 0))

-- the number that a query of the generation's row found
abbrev pub FindsGeneration : {S : Type 0} → Ghosts S → Held S → ℕ → Type 0
FindsGeneration {S} g old number = (between : Held S) × FindsNumber (state g old) (state g between) number

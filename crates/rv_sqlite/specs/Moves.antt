-- What a move to the next row finds, in the words of the crate `sqlite`.
use Rattle.std.specs.Prelude.{Option, Some, None}
use Rattle.sqlite_value.specs.Order.{Row}
use Rattle.sqlite_trees.specs.declared.store.Store.{Ghosts}
use Rattle.sqlite.specs.State.{IsUnchanged}
use Rattle.sqlite.specs.Held.{Held, state}
use Rattle.sqlite.specs.Given.{Advances}
use Rattle.rv_sqlite.specs.declared.row_read.RowRead.{RowRead}
use Rattle.rv_sqlite.specs.Rows.{Shows}

module _ {S : Type 0} (g : Ghosts S) where
  -- this row is the next one, or there is none; what the connection shows does not change
  pub record Moves (old new : Held S) (row : Option Row) : Type 0 where
    pub advances : Advances g old new row
    pub same : IsUnchanged (state g old) (state g new)

  -- the next row stands for this, or there is none
  abbrev pub MovesTo : Held S → Held S → Option RowRead → Type 0
  MovesTo old new (Some read) = (row : Row) × Moves old new (Some row) × Shows row read
  MovesTo old new None = Moves old new None

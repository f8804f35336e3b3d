-- What the list of objects and the invariant of a connection say of the table.
use Rattle.std.proofs.Common.{◌≡◌, ℕ, false, IsTrue, subst}
use Rattle.sqlite_trees.specs.declared.store.Shape.{Shape}
use Rattle.sqlite_trees.specs.declared.store.Shape.TheVariants as shape
use Rattle.sqlite_trees.specs.declared.store.Store.{Ghosts}
use Rattle.sqlite_trees.specs.Objects.{catalog_tree, IsListed}
use Rattle.sqlite_trees.specs.View.{View, IsShaped, IsOrdered}
use Rattle.sqlite_schema.specs.declared.schema.Schema.{Schema}
use Rattle.sqlite_catalog.specs.Listing.{IsSound}
use Rattle.sqlite_catalog.proofs.LayoutLemmas.{laid_out, objects_rise}
use Rattle.sqlite.specs.Held.{Held, IsConnected, Serves, state}
use Rattle.sqlite_rules.proofs.ListLemmas.{all_has}
use Rattle.sqlite_schema.specs.declared.schema.Table.{Table}
use Rattle.rv_sqlite.specs.Table.{IsCellAt, cell_in}
use Rattle.rv_sqlite.proofs.CellAt.{listed as on_list}

-- ---- the table of a connection

table_shape : (v : View) (schema : Schema) (at tree : ℕ) → IsCellAt schema at tree → Serves v schema → IsListed (v.trees catalog_tree) v.shape v.reals → IsOrdered v.shape v.trees → IsShaped shape.Table (v.trees tree)
table_shape v schema at tree is serves listed ordered =
    let laid = laid_out listed (objects_rise v listed ordered) serves.sound.lists.listed in
    subst (λ (s : Shape). IsShaped s (v.trees tree)) (all_has (λ (t : Table). v.shape t.tree ≡ shape.Table) schema.tables (cell_in tree) laid.tables (on_list schema at tree is)) (ordered tree)

module _ {S : Type 0} (g : Ghosts S) (h : Held S) (connected : IsConnected (g.view h.store) (g.recovers h.store) h.schema h.saved h.in_transaction) (is_open : IsTrue (state g h).is_open) where
  -- What an open connection sees is sound.
  pub sound_now : IsSound (state g h).now.schema (state g h).now.trees
  sound_now = (connected.serves is_open).sound

  -- Its table has a whole number before each row, and these rise. The laws are those of the store.
  pub shaped_table : ((s : S) → (g.view s).is_broken ≡ false → IsListed ((g.view s).trees catalog_tree) (g.view s).shape (g.view s).reals)
      → ((s : S) → (g.view s).is_broken ≡ false → IsOrdered (g.view s).shape (g.view s).trees) → (at tree : ℕ) → IsCellAt (state g h).now.schema at tree → IsShaped shape.Table ((state g h).now.trees tree)
  shaped_table listed ordered at tree is =
      let serves = connected.serves is_open in
      table_shape (g.view h.store) h.schema at tree is serves (listed h.store serves.unbroken) (ordered h.store serves.unbroken)

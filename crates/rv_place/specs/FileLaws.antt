-- A connection that was opened over files holds what they held.
use Rattle.std.proofs.Common.{◌≡◌, ℕ, List, [], ◌∷◌, Some, None, slice_get, inl, inr, refl, sym, ap, subst, ◌∙◌, arith, filter}
use Rattle.std.specs.List.{AllZip}
use Rattle.sqlite_wal.specs.Recovery.{Image}
use Rattle.sqlite_trees.specs.Tree.{Trees}
use Rattle.sqlite_schema.specs.declared.schema.Schema.{Schema}
use Rattle.sqlite_schema.specs.declared.schema.Table.{Table}
use Rattle.sqlite_catalog.specs.Listing.{IsSound, IsTableRow, is_table_row}
use Rattle.sqlite.specs.Files.{AreFoundIn, IsEmpty, IsNothing}
use Rattle.std.proofs.Math.Logic.{∥∥₁_elim}
use Rattle.rv_place.specs.BlankLaws.{nothing_adopts}
use Rattle.sqlite.specs.Start.{FindsIn}
use Rattle.sqlite.specs.State.{State}
use Rattle.rv_keeper.specs.declared.loaded.Loaded.{Loaded}
use Rattle.rv_keeper.specs.Keeping.{holding}
use Rattle.rv_sqlite.specs.HeldLaws.{one_schema}
use Rattle.rv_sqlite.specs.KnownLaws.{known_cases}
use Rattle.rv_sqlite.specs.Table.{IsCellAt, IsKnown, cell_in}
use Rattle.rv_sqlite.specs.Telling.{Holds, LeftHolding, StandFor}
use Rattle.rv_place.specs.Files.{FilesHold, MayStandFor}

-- what trees hold by a schema that they list, they hold by each that they list, which is the same
held_by : (trees : Trees) (schema : Schema) (held : Loaded) → IsSound schema trees → LeftHolding trees held → StandFor (record { schema = schema; trees = trees }) held
held_by trees schema held sound (other, is) =
    let same = one_schema (record { schema = other; trees = trees }) (record { schema = schema; trees = trees }) refl is.has.sound sound in
    subst (λ (s : Schema). StandFor (record { schema = s; trees = trees }) held) same is

-- trees that list nothing list no table
none_listed : (tables : List Table) → AllZip IsTableRow [] tables → tables ≡ []
none_listed [] h = refl
none_listed (table ∷ tables) h = absurd h

empty_lists : (trees : Trees) (schema : Schema) → IsEmpty trees → IsSound schema trees → schema.tables ≡ []
empty_lists trees schema empty sound = none_listed schema.tables (subst (λ (rows : _). AllZip IsTableRow (filter is_table_row rows) schema.tables) empty.1 sound.lists.listed.tables)

not_at : (schema : Schema) (at tree : ℕ) → schema.tables ≡ [] → ¬ IsCellAt schema at tree
not_at schema at tree none is = absurd (let e : None ≡ Some (cell_in tree) = sym (ap (λ (tables : List Table). slice_get tables at) none) ∙ is.there in cc)

nothing_in : (trees : Trees) (schema : Schema) → IsEmpty trees → IsSound schema trees → IsKnown schema → StandFor (record { schema = schema; trees = trees }) (holding [] 0)
nothing_in trees schema empty sound known = elim (known_cases schema known) [
  | inl there ↦ absurd (not_at schema there.0 there.1 (empty_lists trees schema empty sound) there.2)
  | inr unused ↦ record {
    all = [];
    whole = record { small = omega arith; shelves = tt; are = inr (refl, refl) };
    has = record { sound = sound; are = inr (unused, refl) };
  }
]

-- what is found where no database was made yet is empty
found_empty : (image : Image) (trees : Trees) → IsNothing image → AreFoundIn image trees → IsEmpty trees
found_empty image trees none (inr (nothing, empty)) = empty
found_empty image trees none (inl (size, pages, wanted, adopts, ours, is)) = absurd (∥∥₁_elim ours (λ a b. absurd a) (λ it. nothing_adopts size image pages adopts it.file.sound none))

-- what the files held is held as they were opened
pub found_holds : (image : Image) (s : State) (held : Loaded) → FindsIn image s → IsSound s.committed.schema s.committed.trees → IsKnown s.committed.schema → FilesHold image held → Holds s held
found_holds image s held found sound known files = by files.stand
  where
    by : MayStandFor image held → Holds s held
    by (inl (db, holds, left)) = held_by s.committed.trees s.committed.schema held sound (subst (λ (trees : Trees). LeftHolding trees held) (sym (found.holds db holds)) left)
    by (inr (none, is)) = subst (λ (l : Loaded). Holds s l) (sym is) (nothing_in s.committed.trees s.committed.schema (found_empty image s.committed.trees none found.reads) sound known)

-- A keeper that is adopted over a connection to files holds what they held.
use Rattle.std.proofs.Common.{◌≡◌, ◌≢◌, ℕ, List, codes, sym, subst, IsTrue}
use Rattle.sqlite_wal.specs.Recovery.{Image}
use Rattle.sqlite_trees.specs.declared.store.Store.{Ghosts}
use Rattle.sqlite.specs.Effect.{Database}
use Rattle.sqlite.specs.Held.{Held, state}
use Rattle.sqlite.specs.Start.{FindsIn}
use Rattle.sqlite.specs.State.{HasCleanDisk, IsLive, Opens}
use Rattle.rv_keeper.specs.declared.loaded.Loaded.{Loaded}
use Rattle.rv_sqlite.specs.declared.sqlite_keeper.SqliteKeeper.{SqliteKeeper}
use Rattle.rv_sqlite.specs.Table.{IsKnown}
use Rattle.rv_sqlite.specs.Telling.{Holds, Tells}
use Rattle.rv_place.specs.declared.store_keeper.StoreKeeper.TheVariants.{Sqlite}
use Rattle.rv_place.specs.FileLaws.{found_holds}
use Rattle.rv_place.specs.Files.{FilesHold}
use Rattle.rv_place.specs.Stored.{IsGiven}

-- what is so of a connection whose disk gave back what was written
abbrev IsOver : {T : Type 0} → Ghosts T → Image → Held T → Type 0
IsOver g image h = HasCleanDisk (state g h) → FindsIn image (state g h) × Opens (state g h) × IsLive (state g h)

over_holds : {T : Type 0} (g : Ghosts T) (image : Image) (h : Held T) (held : Loaded) → IsOver g image h → IsKnown (state g h).now.schema → Tells (state g h) → FilesHold image held → Holds (state g h) held
over_holds g image h held over known tells files =
    let (found, opens, live) = over tells.honest in
    found_holds image (state g h) held found (live opens.is_open).1 (subst (λ (db : Database). IsKnown db.schema) opens.clean known) files

pub adopted_given : {T : Type 0} {g : Ghosts T} (image : Image) (name : List ℕ) (connection : Held T) (keeper : SqliteKeeper T g) → name ≢ codes "memory" → (HasCleanDisk (state g connection) → FindsIn image (state g connection)) → (HasCleanDisk (state g connection) → Opens (state g connection) × IsLive (state g connection))
    → keeper.connection ≡ connection → keeper.faults ≡ 0 → (IsTrue keeper.is_known → IsKnown (state g connection).now.schema) → IsGiven image name (Sqlite keeper)
adopted_given {g = g} image name connection keeper other found opened same faults known = record {
  fresh = (other, faults);
  found = λ named tells held files.
      let at = sym same in
      over_holds g image keeper.connection held (subst (λ (h : Held _). IsOver g image h) at (λ clean. (found clean, (opened clean).0, (opened clean).1)))
      (subst (λ (h : Held _). IsKnown (state g h).now.schema) at (known tells.0)) tells.1 files;
}

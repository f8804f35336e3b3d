-- What a database file and its log hold, as a store of cells.
use Rattle.std.specs.Prelude.{◌≡◌, ◌⊎◌, []}
use Rattle.sqlite_wal.specs.Recovery.{Image}
use Rattle.sqlite_trees.specs.Tree.{Trees}
use Rattle.sqlite.specs.Files.{HoldsDatabase, IsNothing}
use Rattle.rv_keeper.specs.declared.loaded.Loaded.{Loaded}
use Rattle.rv_keeper.specs.Keeping.{holding}
use Rattle.rv_sqlite.specs.Telling.{LeftHolding}

-- The two files stand for this: a database that they hold has its cells; or none was made in them yet, as where they are not there, and it
-- is nothing.
abbrev pub MayStandFor : Image → Loaded → Type 0
MayStandFor image held = ((db : Trees) × HoldsDatabase image db × LeftHolding db held) ⊎ (IsNothing image × (held ≡ holding [] 0))

-- they hold this, and nothing else
pub record FilesHold (image : Image) (held : Loaded) : Type 0 where
  pub stand : MayStandFor image held
  pub only : (other : Loaded) → MayStandFor image other → other ≡ held

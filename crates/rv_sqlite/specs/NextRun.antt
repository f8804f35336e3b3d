-- From one run to the next: what is opened over the files that a crash left is one of what the crash might leave.
use Rattle.std.specs.Prelude.{Some}
use Rattle.sqlite_disk.specs.declared.Disk.{Ghosts}
use Rattle.sqlite_wal.specs.Recovery.{Image}
use Rattle.sqlite_store.specs.declared.store.FileStore.{FileStore}
use Rattle.sqlite_store.specs.FileStore as files
use Rattle.sqlite.specs.Files.{file_state}
use Rattle.sqlite.specs.Held.{Held}
use Rattle.sqlite.specs.Start.{FindsIn}
use Rattle.sqlite.specs.State.{HasCleanDisk}
use Rattle.rv_keeper.specs.declared.loaded.Loaded.{Loaded}
use Rattle.rv_sqlite.specs.Telling.{Holds, MayLeave}

-- Where the disk of a connection gave back what was written, and another connection was opened over what a crash may leave of its two files,
-- what that holds is one of what a crash may leave of the first.
abbrev pub OpensWhatIsLeft : {C D : Type 0} {g : Ghosts C} {h : Ghosts D} → Held (FileStore C g) → Held (FileStore D h) → Type 0
OpensWhatIsLeft before opened =
    HasCleanDisk (file_state before) → (left : Image) → (files.state before.store).may_leave left → FindsIn left (file_state opened)
    → (held : Loaded) → Holds (file_state opened) held → ∥ MayLeave (file_state before) (Some held) ∥₁

-- What is opened over the files that a crash left.
use Rattle.std.proofs.Math.Logic.{∥∥₁_map}
use Rattle.sqlite_disk.specs.declared.Disk.{Ghosts}
use Rattle.sqlite_store.specs.declared.store.FileStore.{FileStore}
use Rattle.sqlite_store.specs.FileStore.{recovers, view}
use Rattle.sqlite.specs.Files.{file_state}
use Rattle.sqlite.specs.Held.{Held, IsConnected}
use Rattle.sqlite.proofs.Theorems.{next_run}
use Rattle.rv_sqlite.specs.NextRun.{OpensWhatIsLeft}

pub opens_what_is_left : {C D : Type 0} {g : Ghosts C} {h : Ghosts D} (before : Held (FileStore C g)) (opened : Held (FileStore D h)) → IsConnected (view before.store) (recovers before.store) before.schema before.saved before.in_transaction → OpensWhatIsLeft before opened
opens_what_is_left before opened conn clean left may found held holds =
    ∥∥₁_map (next_run before.store (conn.numbered clean) (conn.found clean) left may (file_state opened) found)
    (λ allowed. ((file_state opened).committed.trees, allowed, ((file_state opened).committed.schema, holds)))

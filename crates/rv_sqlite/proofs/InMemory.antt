-- A new database holds nothing.
use Rattle.std.proofs.Common.{◌≡◌, [], inr, refl, ap, subst, arith}
use Rattle.sqlite.specs.Effect.{Database}
use Rattle.sqlite.specs.State.{HasCleanDisk, IsLive, Opens, State}
use Rattle.sqlite.specs.Held.{Held, state}
use Rattle.sqlite.specs.Steps.{over_memory}
use Rattle.sqlite_trees.specs.View.{doubt}
use Rattle.sqlite_trees.specs.declared.memory.MemStore.{MemStore}
use Rattle.rv_keeper.specs.Keeping.{holding}
use Rattle.rv_sqlite.specs.Table.{is_unused, no_schema}
use Rattle.rv_sqlite.specs.Telling.{Holds, StandFor, Tells}

pub new_tells : (s : State) → HasCleanDisk s → Opens s → Tells s
new_tells s clean opens = record { honest = clean; ready = record { is_open = opens.is_open; autocommit = opens.autocommit } }

pub new_holds : (s : State) → Opens s → IsLive s → s.now.schema ≡ no_schema → Holds s (holding [] 0)
new_holds s opens live is = subst (λ (db : Database). StandFor db (holding [] 0)) opens.clean (record {
  all = [];
  whole = record { small = omega arith; shelves = tt; are = inr (refl, refl) };
  has = record { sound = (live opens.is_open).0; are = inr (ap is_unused is, refl) };
})

-- memory gives back what was written
pub memory_is_clean : (h : Held MemStore) → HasCleanDisk (state over_memory h)
unfolding doubt
memory_is_clean h = refl

-- What a call tells of what is held, by its answer, and of a crash.
use Rattle.std.proofs.Common.{◌≡◌, ◌<◌, ◌+◌, ◌-◌, ◌^◌, ℕ, Bool, IsTrue, List, OnOk, Some, None, Result, Ok, Err, inl, inr, refl, sym, ap, subst, arith}
use Rattle.sqlite_trees.specs.Tree.{Trees}
use Rattle.sqlite_trees.specs.declared.store.Store.{Ghosts}
use Rattle.sqlite.specs.Effect.{Database}
use Rattle.sqlite.specs.Held.{Held, state}
use Rattle.sqlite.specs.State.{State, HasCleanDisk, KeepsCommit, Survives}
use Rattle.rv_keeper.specs.declared.change.Change.{Change}
use Rattle.rv_keeper.specs.declared.loaded.Loaded.{Loaded}
use Rattle.rv_keeper.specs.Cells.{AreChanges}
use Rattle.rv_keeper.specs.Crashes.{IsSettled}
use Rattle.rv_base.specs.declared.fault.Fault.{Fault}
use Rattle.rv_base.specs.declared.fault.Fault.TheVariants.{Failed, Memory}
use Rattle.rv_keeper.specs.Keeping.{Made, committed}
use Rattle.rv_sqlite.specs.Steps.{Comes}
use Rattle.rv_sqlite.specs.Telling.{CallMakes, CommitsOrNot, Holds, LeavesAs, LeavesNext, LeavesNoMore, MayLeave, StandFor, Tells}
use Rattle.rv_sqlite.specs.HeldLaws.{stand_same}
use Rattle.rv_sqlite.proofs.Settling.{commit_next}
use Rattle.rv_sqlite.proofs.Told.{leaves_one}

-- where nothing was committed, the same is held
pub kept_holds : (old new : State) (held : Loaded) → KeepsCommit old new → IsTrue new.is_open → Holds old held → Holds new held
kept_holds old new held kept is_open h = subst (λ (d : Database). StandFor d held) (sym (kept.committed is_open)) h

-- What comes of a commit that was made.
pub commit_by : {E : Type 0} (old new : State) (from : ℕ) (changes : List Change) (r : Result (Unit {0}) E) → from < 2 ^ 64 - 1 → AreChanges changes → Comes old new (from + 1) changes r → OnOk r (CallMakes old new (committed from changes))
commit_by old new from changes (Ok done) low are comes = commit_next old new from changes low are comes
commit_by old new from changes (Err e) low are comes = tt

-- What is held at each answer to a commit.
pub made_by : {E : Type 0} (old new : State) (from : ℕ) (changes : List Change) (r : Result (Unit {0}) E) → from < 2 ^ 64 - 1 → AreChanges changes → Comes old new (from + 1) changes r → Tells new → (held : Loaded) → Holds old held
    → CommitsOrNot from changes r (Holds new) held
made_by old new from changes (Ok done) low are comes tells held h = (commit_next old new from changes low are comes).holds held h
made_by old new from changes (Err e) low are comes tells held h = kept_holds old new held comes tells.ready.is_open h

-- So it is by the answer of a keeper.
pub held_by : (from : ℕ) (changes : List Change) (r : Result (Unit {0}) Fault) (Holding : Loaded → Type 0) (held : Loaded) → CommitsOrNot from changes r Holding held → Made from changes r Holding held
held_by from changes (Ok done) Holding held h = h
held_by from changes (Err Failed) Holding held h = inl h
held_by from changes (Err Memory) Holding held h = h

-- ---- a crash

module _ (is_known : Bool) (f : Loaded → Loaded) (old new : State) (clean : HasCleanDisk new) (survives : Survives old new (LeavesNext f old)) (known : IsTrue is_known) where
  was_clean : HasCleanDisk old
  was_clean = omega (arith, clean, survives.clean)

  -- It leaves what it might before, or what the function makes of what was held.
  pub leaves_as : LeavesAs is_known f old new
  leaves_as (Some left) (trees, may, is) = elim (survives.crash clean trees may) [
    | inl was ↦ inl (trees, was, is)
    | inr next ↦ inr (
      (known, record { honest = was_clean; ready = next.was }),
      λ held h.
          let other = next.holds held h in
          ap Some (stand_same (record { schema = is.0; trees = trees }) (record { schema = other.0; trees = trees }) left (f held) refl is.1 other.1),
    )
  ]
  leaves_as None (trees, may, none) = elim (survives.crash clean trees may) [
    | inl was ↦ inl (trees, was, none)
    | inr next ↦ inr ((known, record { honest = was_clean; ready = next.was }), λ held h. absurd (none (f held) (next.holds held h)))
  ]

pub no_more : (old new : State) → HasCleanDisk new → Survives old new (λ _. ⊥) → LeavesNoMore old new
no_more old new clean survives (Some left) leaves = elim (survives.crash clean leaves.0 leaves.1) [ inl was ↦ inl (leaves.0, was, leaves.2) | inr none ↦ absurd none ]
no_more old new clean survives None leaves = elim (survives.crash clean leaves.0 leaves.1) [ inl was ↦ inl (leaves.0, was, leaves.2) | inr none ↦ absurd none ]

-- The store of an open connection is settled.
pub settled_by : {S : Type 0} (g : Ghosts S) (h : Held S) → ((trees : Trees) → IsTrue (state g h).is_open → (state g h).may_leave trees → trees ≡ (state g h).committed.trees) → Tells (state g h) → IsSettled (Holds (state g h)) (MayLeave (state g h))
settled_by g h law tells held holds left leaves = leaves_one (state g h) (state g h).committed held left holds leaves (λ trees may. law trees tells.ready.is_open may)

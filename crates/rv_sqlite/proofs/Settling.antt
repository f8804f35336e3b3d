-- What a write makes of what was held, and what a write of the generation that was read makes of it.
use Rattle.std.proofs.Common.{◌≡◌, ◌<◌, ◌+◌, ◌-◌, ◌^◌, ℕ, false, IsTrue, List, [], refl, sym, subst, arith}
use Rattle.sqlite_trees.specs.Tree.{Trees}
use Rattle.sqlite.specs.Effect.{Database}
use Rattle.sqlite.specs.State.{State, HasCleanDisk, KeepsCommit, Survives}
use Rattle.sqlite.proofs.StateLemmas.{survives_then, survives_weaker}
use Rattle.rv_keeper.specs.declared.change.Change.{Change}
use Rattle.rv_keeper.specs.declared.loaded.Loaded.{Loaded}
use Rattle.rv_keeper.specs.Cells.{AreChanges, changed}
use Rattle.rv_keeper.specs.Keeping.{committed, holding}
use Rattle.rv_sqlite.specs.Table.{Stays}
use Rattle.rv_sqlite.specs.Steps.{IsReady, IsWritten, WritesCells, all_next}
use Rattle.rv_sqlite.specs.Telling.{Holds, LeftHolding, CallMakes, LeavesNext, StandFor, HasTable}
use Rattle.rv_sqlite.specs.HeldLaws.{loaded_same}
use Rattle.rv_sqlite.proofs.Told.{has_order, has_table, written_all}

module _ (generation : ℕ) (changes : List Change) (low : generation < 2 ^ 64) (are : AreChanges changes) (old : State) (held : Loaded) (h : Holds old held) where
  -- what a write makes of it
  pub written : (new : State) → IsWritten old new generation changes → Holds new (holding (changed held.cells changes) generation)
  written new w = record {
    all = all_next generation changes h.all;
    whole = written_all generation changes held h.all low are (has_order old.committed h.all h.has) h.whole;
    has = w.writes h.all h.has;
  }

  -- in a table that has the generation's row
  pub written_table : (new : State) → IsWritten old new generation changes → HasTable new.committed (holding (changed held.cells changes) generation)
  written_table new w = has_table new.committed generation changes held h.all are (has_order old.committed h.all h.has) h.whole (w.writes h.all h.has)

  pub written_in : (trees : Trees) → WritesCells old generation changes trees → LeftHolding trees (holding (changed held.cells changes) generation)
  written_in trees w =
      let left = w.writes h.all h.has in
      (left.0, record { all = all_next generation changes h.all; whole = written_all generation changes held h.all low are (has_order old.committed h.all h.has) h.whole; has = left.1 })

-- ---- a commit

module _ (old new : State) (from : ℕ) (changes : List Change) (below : from < 2 ^ 64 - 1) (are : AreChanges changes) where
  low : from + 1 < 2 ^ 64
  low = omega (arith, below)

  pub commit_next : IsWritten old new (from + 1) changes → CallMakes old new (committed from changes)
  commit_next w = record { was = w.was; is = w.is; stays = w.stays; holds = λ held h. written (from + 1) changes low are old held h new w; table = λ held h. written_table (from + 1) changes low are old held h new w }

  pub commit_survives : Survives old new (WritesCells old (from + 1) changes) → Survives old new (LeavesNext (committed from changes) old)
  commit_survives = survives_weaker old new _ _ (λ clean trees w. record { was = w.was; holds = λ held h. written_in (from + 1) changes low are old held h trees w })

-- ---- the generation that was read, written again

no_changes : AreChanges []
no_changes = record { distinct = tt; shelves = tt }

same_held : (held : Loaded) (generation : ℕ) → held.generation ≡ generation → holding held.cells generation ≡ held
same_held held generation is = loaded_same (holding held.cells generation) held refl (sym is)

module _ (old mid new : State) (generation : ℕ) (low : generation < 2 ^ 64) (outside : old.in_transaction ≡ false) where
  held_still : KeepsCommit old mid → IsReady mid → (held : Loaded) → Holds old held → Holds mid held
  held_still kept ready held h = subst (λ (d : Database). StandFor d held) (sym (kept.committed ready.is_open)) h

  pub settled_next : KeepsCommit old mid → (IsTrue old.is_open → (held : Loaded) → Holds old held → held.generation ≡ generation) → IsWritten mid new generation [] → CallMakes old new (λ held. held)
  settled_next kept only w = record {
    was = record { is_open = kept.was_open w.was.is_open; autocommit = outside };
    is = w.is;
    stays = subst (λ (d : Database). Stays d.schema new.committed.schema) (kept.committed w.was.is_open) w.stays;
    holds = λ held h. subst (Holds new) (same_held held generation (only (kept.was_open w.was.is_open) held h)) (written generation [] low no_changes mid held (held_still kept w.was held h) new w);
    table = λ held h. subst (HasTable new.committed) (same_held held generation (only (kept.was_open w.was.is_open) held h)) (written_table generation [] low no_changes mid held (held_still kept w.was held h) new w);
  }

  pub settled_leaves : KeepsCommit old mid → (IsTrue old.is_open → (held : Loaded) → Holds old held → held.generation ≡ generation) → (trees : Trees) → WritesCells mid generation [] trees → LeavesNext (λ held. held) old trees
  settled_leaves kept only trees w = record {
    was = record { is_open = kept.was_open w.was.is_open; autocommit = outside };
    holds = λ held h. subst (LeftHolding trees) (same_held held generation (only (kept.was_open w.was.is_open) held h)) (written_in generation [] low no_changes mid held (held_still kept w.was held h) trees w);
  }

  pub settled_survives : Survives old mid (λ _. ⊥) → (HasCleanDisk mid → KeepsCommit old mid) → (HasCleanDisk mid → IsTrue old.is_open → (held : Loaded) → Holds old held → held.generation ≡ generation)
      → Survives mid new (WritesCells mid generation []) → Survives old new (LeavesNext (λ held. held) old)
  settled_survives first kept only last = survives_then old mid new (λ _. ⊥) (WritesCells mid generation []) (LeavesNext (λ held. held) old) (λ _ trees none. absurd none)
      (λ clean trees w. let early : HasCleanDisk mid = omega (arith, last.clean) in settled_leaves (kept early) (only early) trees w) first last

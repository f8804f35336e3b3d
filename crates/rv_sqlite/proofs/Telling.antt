-- What a load tells, and a question for the generation, once the generation that was read is written again.
use Rattle.std.proofs.Common.{◌≡◌, ◌<◌, ◌^◌, ℕ, false, IsTrue, List, [], codes, None, sym, ap, subst, arith}
use Rattle.sqlite_trees.specs.View.{IsShaped}
use Rattle.sqlite_trees.specs.declared.store.Shape.TheVariants as shape
use Rattle.sqlite_schema.specs.Names.{table_named}
use Rattle.sqlite_catalog.specs.Listing.{IsSound}
use Rattle.sqlite.specs.Effect.{IsDatabase}
use Rattle.sqlite.specs.State.{State, HasCleanDisk, KeepsCommit, Survives}
use Rattle.sqlite.proofs.StateLemmas.{survives_weaker}
use Rattle.rv_keeper.specs.declared.cell.Cell.{Cell}
use Rattle.rv_keeper.specs.declared.loaded.Loaded.{Loaded}
use Rattle.rv_keeper.specs.Cells.{AreCells}
use Rattle.rv_keeper.specs.Keeping.{holding}
use Rattle.rv_sqlite.specs.Asked.{FindsNumber}
use Rattle.rv_sqlite.specs.Loads.{ReadsTable}
use Rattle.rv_sqlite.specs.Table.{IsCellAt}
use Rattle.rv_sqlite.specs.Steps.{IsSettledWhereOpen, IsWritten, WritesCells}
use Rattle.rv_sqlite.specs.Telling.{Holds, IsGenerationBy, IsToldBy, LeavesNext}
use Rattle.rv_sqlite.proofs.Asked.{number_held}
use Rattle.rv_sqlite.proofs.Kept.{keeps_same}
use Rattle.rv_sqlite.proofs.Read.{read_only, read_holds, nothing_only, nothing_holds}
use Rattle.rv_sqlite.proofs.Settling.{settled_leaves, settled_next, settled_survives}

-- ---- where there was no table

module _ (old new : State) (outside : old.in_transaction ≡ false) (settled : IsSettledWhereOpen old) (none : table_named old.now.schema (codes "cell") ≡ None) where
  at_zero : IsTrue old.is_open → (held : Loaded) → Holds old held → held.generation ≡ 0
  at_zero is_open held h = ap (λ (x : Loaded). x.generation) (nothing_only old (settled is_open) none held h)

  pub nothing_told : (IsTrue old.is_open → IsDatabase old.committed) → (cells : List Cell) → cells ≡ [] → IsWritten old new 0 [] → IsToldBy old new (holding cells 0)
  nothing_told sound cells empty w =
      let next = settled_next old old new 0 (omega arith) outside (keeps_same old) at_zero w in
      let told : IsToldBy old new (holding [] 0) = record {
        next = next;
        only = nothing_only old (settled w.was.is_open) none;
        holds = λ known. next.holds (holding [] 0) (nothing_holds old (settled w.was.is_open) none (sound w.was.is_open) known);
      } in
      subst (λ (l : List Cell). IsToldBy old new (holding l 0)) (sym empty) told

  pub nothing_survives : Survives old new (WritesCells old 0 []) → Survives old new (LeavesNext (λ held. held) old)
  nothing_survives = survives_weaker old new _ _ (λ clean trees w. settled_leaves old old new 0 (omega arith) outside (keeps_same old) at_zero trees w)

-- ---- where the table was read

module _ (old mid new : State) (loaded : Loaded) (outside : old.in_transaction ≡ false) (settled : IsSettledWhereOpen old) (are : AreCells loaded.cells) (low : loaded.generation < 2 ^ 64) where
  read_generation : ReadsTable old mid loaded → IsTrue old.is_open → (held : Loaded) → Holds old held → held.generation ≡ loaded.generation
  read_generation reads is_open held h = ap (λ (x : Loaded). x.generation) (read_only old mid loaded (settled is_open) reads are low held h)

  pub table_told : (IsTrue old.is_open → IsSound old.now.schema old.now.trees) → (IsTrue old.is_open → (at tree : ℕ) → IsCellAt old.now.schema at tree → IsShaped shape.Table (old.now.trees tree))
      → ReadsTable old mid loaded → KeepsCommit old mid → IsWritten mid new loaded.generation [] → IsToldBy old new loaded
  table_told sound shaped reads kept w =
      let is_open = kept.was_open w.was.is_open in
      let next = settled_next old mid new loaded.generation low outside kept (read_generation reads) w in
      record {
        next = next;
        only = read_only old mid loaded (settled is_open) reads are low;
        holds = λ known. next.holds loaded (read_holds old mid loaded (settled is_open) reads are low (sound is_open) (shaped is_open) known);
      }

  pub table_survives : (HasCleanDisk mid → ReadsTable old mid loaded) → (HasCleanDisk mid → KeepsCommit old mid) → Survives old mid (λ _. ⊥) → Survives mid new (WritesCells mid loaded.generation [])
      → Survives old new (LeavesNext (λ held. held) old)
  table_survives reads kept first last = settled_survives old mid new loaded.generation low outside first kept (λ clean. read_generation (reads clean)) last

-- ---- the generation alone

module _ (old mid new : State) (number : ℕ) (outside : old.in_transaction ≡ false) (settled : IsSettledWhereOpen old) (low : number < 2 ^ 64) where
  pub generation_told : FindsNumber old mid number → KeepsCommit old mid → IsWritten mid new number [] → IsGenerationBy old new number
  generation_told found kept w = record {
    next = settled_next old mid new number low outside kept (λ is_open held h. number_held old mid held number (settled is_open) found low h) w;
    only = λ held h. number_held old mid held number (settled (kept.was_open w.was.is_open)) found low h;
  }

  pub generation_survives : (HasCleanDisk mid → FindsNumber old mid number) → (HasCleanDisk mid → KeepsCommit old mid) → Survives old mid (λ _. ⊥) → Survives mid new (WritesCells mid number [])
      → Survives old new (LeavesNext (λ held. held) old)
  generation_survives found kept first last = settled_survives old mid new number low outside first kept (λ clean is_open held h. number_held old mid held number (settled is_open) (found clean) low h) last

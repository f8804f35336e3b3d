-- What commits nothing.
use Rattle.std.proofs.Common.{◌≡◌, ℕ, false, IsTrue, List, Ok, Err, Result, inl, inr, refl, sym, subst, ◌∙◌}
use Rattle.std.proofs.lemmas.Bool.{cases_Bool}
use Rattle.sqlite_value.specs.Order.{Row}
use Rattle.sqlite_trees.specs.declared.store.Store.{Ghosts}
use Rattle.sqlite_resolve.specs.declared.compiled.Compiled.{Compiled}
use Rattle.sqlite.specs.declared.error.Error.{Error}
use Rattle.sqlite.specs.Held.{Held, state}
use Rattle.sqlite.specs.State.{State, KeepsCommit, IsUnchanged, IsRolledBack, IsNotRun, RunsAlone, ExecutesIn, Executes, ExecutesInside, shows_rows}
use Rattle.sqlite.specs.Steps.{FailsToCommit}

pub keeps_same : (s : State) → KeepsCommit s s
keeps_same s = record { was_open = λ h. h; committed = λ _. refl }

pub keeps_then : (a b c : State) → KeepsCommit a b → KeepsCommit b c → KeepsCommit a c
keeps_then a b c p q = record { was_open = λ h. p.was_open (q.was_open h); committed = λ h. q.committed h ∙ p.committed (q.was_open h) }

pub unchanged_keeps : (old new : State) → IsUnchanged old new → KeepsCommit old new
unchanged_keeps old new same = record { was_open = λ _. same.0.was_open; committed = λ _. same.0.committed_is }

pub undone_keeps : (old new : State) → IsRolledBack old new → KeepsCommit old new
undone_keeps old new back = record { was_open = back.was_open; committed = λ open_now. (back.undone open_now).1 }

-- a commit that was refused
pub refused_keeps : (old new : State) (e : Error) → FailsToCommit old new e → KeepsCommit old new
refused_keeps old new e (inl fails) = undone_keeps old new fails.3
refused_keeps old new e (inr late) = unchanged_keeps old new late.2

alone_keeps : (old new : State) (sql : List ℕ) (c : Compiled) (params : Row) (e : Error) → RunsAlone false old new sql c params (Err e) → KeepsCommit old new
alone_keeps old new sql c params e alone = elim (cases_Bool (shows_rows false c)) [
  | inl shows ↦ unchanged_keeps old new (rw shows at alone).1
  | inr runs ↦ elim (rw runs at alone) [ inl refused ↦ unchanged_keeps old new refused.1 | inr fails ↦ undone_keeps old new fails.3 ]
]

-- A statement that was refused has committed nothing.
pub error_keeps : (old new : State) (sql : List ℕ) (params : Row) (e : Error) → Executes sql params old new (Err e) → KeepsCommit old new
unfolding ExecutesIn IsNotRun
error_keeps old new sql params e (inl (inl misread)) = unchanged_keeps old new misread.1
error_keeps old new sql params e (inl (inr fails)) = undone_keeps old new fails.3
error_keeps old new sql params e (inr ran) = alone_keeps old new sql ran.0 _ e ran.2

inside_keeps : (sql : List ℕ) (params : Row) (old new : State) (r : Result ℕ Error) → ExecutesInside 0 sql params old new r → KeepsCommit old new
inside_keeps sql params old new (Ok count) h = record { was_open = λ _. h.1.was_open; committed = λ _. h.1.committed_is }
inside_keeps sql params old new (Err e) (inl h) = elim h.1 [ inl same ↦ unchanged_keeps old new same | inr undone ↦ undone_keeps old new undone ]
inside_keeps sql params old new (Err e) (inr h) = unchanged_keeps old new h.2

-- a call of a transaction, in or after it
pub step_keeps : {S : Type 0} (g : Ghosts S) (old new : Held S) (sql : List ℕ) (params : Row) (r : Result ℕ Error) (e : Error)
    → (old.in_transaction ≡ false → (r ≡ Err e) × (new ≡ old)) → (IsTrue old.in_transaction → ExecutesInside 0 sql params (state g old) (state g new) r) → KeepsCommit (state g old) (state g new)
step_keeps g old new sql params r e ended runs = elim (cases_Bool old.in_transaction) [
  | inl inside ↦ inside_keeps sql params (state g old) (state g new) r (runs inside)
  | inr outside ↦ subst (λ h. KeepsCommit (state g old) (state g h)) (sym (ended outside).1) (keeps_same (state g old))
]

-- A ROLLBACK where no transaction is under way.
use Rattle.std.proofs.Common.{◌≡◌, ℕ, Bool, true, false, IsTrue, List, [], codes, Ok, Err, Result, None, inl, inr, refl, subst, ◌∙◌}
use Rattle.sqlite_value.specs.Order.{Row}
use Rattle.sqlite_trees.specs.Tree.{Trees}
use Rattle.sqlite.specs.Clock.{timed}
use Rattle.sqlite.specs.Command.TheVariants.{Rollback}
use Rattle.sqlite.specs.declared.error.Error.{Error}
use Rattle.sqlite.specs.Does.{Tally, Does}
use Rattle.sqlite.specs.Effect.{Database}
use Rattle.sqlite.specs.State.{State, KeepsCommit, Executes, ExecutesIn, CommitsBy, IsNoStatement, IsNotRun, IsUnchanged, MayCommit, RunsCommand, mode_of, shows_rows, store_error, text_of}
use Rattle.sqlite.specs.declared.error.Error.TheVariants.{ExecuteReturnedResults, SqliteFailure}
use Rattle.sqlite.specs.declared.error.ErrorCode.TheVariants.{TransactionState}
use Rattle.sqlite_resolve.specs.declared.compiled.Compiled.{Compiled}
use Rattle.sqlite_trees.specs.declared.error.StoreError.{StoreError}
use Rattle.sqlite_trees.specs.declared.error.StoreError.TheVariants as stored
use Rattle.std.specs.Prelude.{IfErr, MatchBool}
use Rattle.sqlite.proofs.Callers.{IsPlain, command_of, runs_as}
use Rattle.rv_sqlite.specs.Steps.{IsReady}
use Rattle.rv_sqlite.proofs.Kept.{error_keeps}
use Rattle.rv_sqlite.proofs.Meaning.{rollback_is, rollback_plain}

never_inside : (b : Bool) → b ≡ false → ¬ IsTrue b
never_inside true h is = absurd (cc)
never_inside false h is = absurd (cc)

-- Outside a transaction ROLLBACK is refused.
pub rollback_keeps : (old new : State) (r : Result ℕ Error) → old.in_transaction ≡ false → Executes (codes "ROLLBACK") [] old new r → KeepsCommit old new
rollback_keeps old new (Err e) outside h = error_keeps old new (codes "ROLLBACK") [] e h
rollback_keeps old new (Ok count) outside h =
    absurd (never_inside old.in_transaction outside (runs_as (codes "ROLLBACK") [] old new old.now.schema refl Rollback (rollback_is old.now.schema) (rollback_plain old.now.schema) count h).0)

does_nothing : (s : State) (params : Row) (text : List ℕ) (done : Tally × Database) → ¬ Does s.step_limit (mode_of s) params s.now text None Rollback (Ok done)
does_nothing s params text done h = absurd (let e = h in cc)

-- It writes nothing that a crash may leave.
pub rollback_commits : (s : State) (trees : Trees) → ¬ CommitsBy (codes "ROLLBACK") [] s trees
unfolding CommitsBy
rollback_commits s trees h =
    let c = h.0 in
    let known : command_of (Ok c) ≡ Rollback = subst (λ r. command_of r ≡ Rollback) h.1.is (rollback_is s.now.schema) in
    let plain = (subst IsPlain h.1.is (rollback_plain s.now.schema)).0 in
    elim (subst (λ k. MayCommit s c.returning k (text_of (codes "ROLLBACK") c) (timed [] c.formats h.1.now) trees) known h.2) [
      | inl ends ↦ elim ends.0 [ inl commit ↦ absurd (cc) | inr release ↦ absurd (let e = release.2 in cc) ]
      | inr writes ↦ does_nothing s (timed [] c.formats h.1.now) (text_of (codes "ROLLBACK") c) (writes.1, writes.2) (subst (λ r. Does s.step_limit (mode_of s) (timed [] c.formats h.1.now) s.now (text_of (codes "ROLLBACK") c) r Rollback (Ok (writes.1, writes.2))) plain writes.3)
    ]

-- ---- Refused for the state of the transaction it is on a connection that is open, and in none.

abbrev in_state : Error
in_state = SqliteFailure TransactionState

no_store_error : (cause : StoreError) → ¬ (in_state ≡ store_error cause)
no_store_error stored.OutOfMemory h = absurd (cc)
no_store_error stored.Io h = absurd (cc)
no_store_error stored.Corrupt h = absurd (cc)
no_store_error stored.Full h = absurd (cc)
no_store_error stored.Broken h = absurd (cc)
no_store_error stored.Unstorable h = absurd (cc)

no_statement : (s : State) (sql : List ℕ) (params : Row) → ¬ IsNoStatement s sql params in_state
no_statement s sql params (inl (fault, none, is)) = absurd (cc)
no_statement s sql params (inr (c, is, inl (long, e))) = absurd (cc)
no_statement s sql params (inr (c, is, inr (inl (many, e)))) = absurd (cc)
no_statement s sql params (inr (c, is, inr (inr (clock, e)))) = absurd (cc)

unchanged_ready : (old new : State) → old.in_transaction ≡ false → IsUnchanged old new → IsReady new
unchanged_ready old new outside same = record { is_open = same.0.is_open; autocommit = same.0.mode ∙ outside }

runs_ready : (old new : State) (sql : List ℕ) (c : Compiled) (params : Row) → old.in_transaction ≡ false → RunsCommand old new sql c params (Err in_state) → IsReady new
runs_ready old new sql c params outside (inl (why, same)) = unchanged_ready old new outside same
runs_ready old new sql c params outside (inr (cause, is, why, back, named)) = absurd (no_store_error cause is)

alone_ready : (old new : State) (sql : List ℕ) (c : Compiled) (params : Row) (shows : Bool) → old.in_transaction ≡ false
    → MatchBool shows (◌≡◌ {A = Result ℕ Error} (Err in_state) (Err ExecuteReturnedResults) × IsUnchanged old new) (RunsCommand old new sql c params (Err in_state)) → IsReady new
alone_ready old new sql c params true outside (is, same) = absurd (cc)
alone_ready old new sql c params false outside runs = runs_ready old new sql c params outside runs

ready_where_refused : (old new : State) → old.in_transaction ≡ false → Executes (codes "ROLLBACK") [] old new (Err in_state) → IsReady new
unfolding ExecutesIn IsNotRun
ready_where_refused old new outside (inl (inl (none, same))) = absurd (no_statement old (codes "ROLLBACK") [] none)
ready_where_refused old new outside (inl (inr (cause, is, why, back, named))) = absurd (no_store_error cause is)
ready_where_refused old new outside (inr (c, it, alone)) = alone_ready old new (codes "ROLLBACK") c (timed [] c.formats it.now) (shows_rows false c) outside alone

pub refused_ready : (old new : State) (r : Result ℕ Error) → old.in_transaction ≡ false → Executes (codes "ROLLBACK") [] old new r → IfErr r (λ e. e ≡ in_state → IsReady new)
refused_ready old new (Ok count) outside h = tt
refused_ready old new (Err e) outside h = λ is. ready_where_refused old new outside (subst (λ (f : Error). Executes (codes "ROLLBACK") [] old new (Err f)) is h)

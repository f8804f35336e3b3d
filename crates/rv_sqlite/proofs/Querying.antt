-- The two queries write nothing, whatever the schema is.
use Rattle.std.proofs.Common.{◌≡◌, ℕ, Bool, true, false, cond, IsSome, List, [], Ok, Err, Result, Option, Some, None, inl, inr, refl, sym, ap, subst, ◌∙◌}
use Rattle.sqlite_value.specs.Order.{Row}
use Rattle.sqlite_trees.specs.Tree.{Trees}
use Rattle.sqlite_ast.specs.declared.Statement.{Statement}
use Rattle.sqlite_ast.specs.declared.Statement.TheVariants as written
use Rattle.sqlite_syntax.specs.declared.statement.Parsed.{Parsed}
use Rattle.sqlite_schema.specs.declared.schema.Schema.{Schema}
use Rattle.sqlite_schema.specs.declared.command.Command.{Command}
use Rattle.sqlite_schema.specs.declared.command.Returning.{Returning}
use Rattle.sqlite_resolve.specs.declared.compiled.Compiled.{Compiled}
use Rattle.sqlite_resolve.specs.declared.error.CompileError.{CompileError}
use Rattle.sqlite_resolve.specs.declared.error.CompileError.TheVariants.{NoSuchTable}
use Rattle.sqlite_resolve.specs.Lowering.{Checked, and_then}
use Rattle.sqlite_resolve.specs.Compile.{first, returning, meaning, planned, with_command, compiled}
use Rattle.sqlite_tied.specs.Compute.{everything}
use Rattle.sqlite.specs.Clock.{timed}
use Rattle.sqlite.specs.declared.error.Error.{Error}
use Rattle.sqlite_trees.specs.declared.store.Store.{Ghosts}
use Rattle.sqlite.specs.Held.{Held, state}
use Rattle.sqlite.specs.Given.{HasBegun, HasGiven, Returns}
use Rattle.sqlite.specs.Listing.{is_select, if_select, reads_listing, understood, listing_schema}
use Rattle.sqlite.specs.State.{State, KeepsCommit, IsUnchanged, IsNotRun, Shown, QueriesRow, FailsToQuery, FailsToShow, ShowsRows, CommitsShowing}
use Rattle.rv_sqlite.specs.Asked.{one_text}
use Rattle.rv_sqlite.specs.Loads.{all_text}
use Rattle.rv_sqlite.proofs.Kept.{unchanged_keeps, undone_keeps}

bound : {A B : Type 0} (r : Checked A) (f : A → Checked B) (b : B) → and_then r f ≡ Ok b → (a : A) × (r ≡ Ok a) × (f a ≡ Ok b)
bound (Ok a) f b h = (a, refl, h)
bound (Err e) f b h = absurd (cc)

abbrev IsQuery : Statement → Type 0
IsQuery (written.Select s) = Unit {0}
IsQuery _ = ⊥

-- the text is read as a query
abbrev pub IsQueryText : Checked Parsed → Type 0
IsQueryText (Ok p) = IsQuery p.statement
IsQueryText (Err e) = Unit {0}

pub all_query : IsQueryText (first all_text)
unfolding everything
all_query = tt

pub one_query : IsQueryText (first one_text)
unfolding everything
one_query = tt

shows_none : (schema : Schema) (base : ℕ) (statement : Statement) → IsQuery statement → returning schema base statement ≡ Ok None
unfolding returning
shows_none schema base (written.Select s) is = refl
shows_none schema base _ is = absurd is

meant : (schema : Schema) (p : Parsed) (base : ℕ) (found : Command × Option Returning) → IsQuery p.statement → meaning schema p base ≡ Ok found → found.1 ≡ None
unfolding meaning
meant schema p base found is h =
    let shown = bound (returning schema base p.statement) _ found h in
    let last = bound _ (λ (c : Command). Ok (c, shown.0)) found shown.2 in
    let none : Some shown.0 ≡ Some None = let e : Ok shown.0 ≡ Ok None = sym shown.1 ∙ shows_none schema base p.statement is in cc in
    cc

made_of : (schema : Schema) (p : Parsed) (plan : List (List ℕ) × (Command × Option Returning)) → IsQuery p.statement → planned schema p ≡ Ok plan → plan.1.1 ≡ None
unfolding planned
made_of schema p plan is h =
    let found = bound (meaning schema p _) (λ (f : Command × Option Returning). Ok (_, f)) plan h in
    let same : found.0 ≡ plan.1 = cc in
    subst (λ (f : Command × Option Returning). f.1 ≡ None) same (meant schema p _ found.0 is found.1)

shows_no_row : (schema : Schema) (text : List ℕ) (c : Compiled) → IsQueryText (first text) → compiled schema text ≡ Ok c → c.returning ≡ None
unfolding compiled
shows_no_row schema text c is h =
    let read = bound (first text) _ c h in
    let plan = bound (planned schema read.0) _ c read.2 in
    let same : with_command read.0 plan.0 ≡ c = cc in
    sym (ap (λ (x : Compiled). x.returning) same) ∙ made_of schema read.0 plan.0 (subst IsQueryText read.1 is) plan.1

of_select : (r : Checked Compiled) (c : Compiled) → if_select r ≡ Ok c → r ≡ Ok c
of_select (Err e) c h = absurd (cc)
of_select (Ok x) c h = go (is_select x.command) h
  where
    go : (b : Bool) → ◌≡◌ {A = Checked Compiled} (cond b (Ok x) (Err NoSuchTable)) (Ok c) → ◌≡◌ {A = Checked Compiled} (Ok x) (Ok c)
    go true same = same
    go false same = absurd (cc)

not_some : ¬ IsSome {T = Returning} None
not_some e = absurd (cc)

module _ (sql : List ℕ) (query : IsQueryText (first sql)) where
  -- the query has no RETURNING
  no_returning : (schema : Schema) (c : Compiled) → understood schema sql ≡ Ok c → c.returning ≡ None
  unfolding understood
  no_returning schema c h = go (reads_listing schema sql) h
    where
      go : (b : Bool) → cond b (if_select (compiled listing_schema sql)) (compiled schema sql) ≡ Ok c → c.returning ≡ None
      go true same = shows_no_row listing_schema sql c query (of_select (compiled listing_schema sql) c same)
      go false same = shows_no_row schema sql c query same

  pub never_returns : (schema : Schema) → ¬ Returns (understood schema sql)
  never_returns schema some = go (understood schema sql) refl some
    where
      go : (r : Result Compiled CompileError) → understood schema sql ≡ r → ¬ Returns r
      go (Ok c) is some = not_some (subst IsSome (no_returning schema c is) some)
      go (Err e) is some = some

  -- It commits nothing.
  pub never_commits : (s : State) (params : Row) (trees : Trees) → ¬ CommitsShowing sql params s trees
  unfolding CommitsShowing
  never_commits s params trees h = not_some (subst IsSome (no_returning s.now.schema h.0 h.1.is) h.2)

  module _ (params : Row) (old new : State) where
    -- Its answer changes nothing.
    pub shown_unchanged : (rows : List Row) → Shown sql params old new rows → IsUnchanged old new
    unfolding Shown
    shown_unchanged rows h = (subst (ShowsRows old new sql h.0 (timed params h.0.formats h.1.now) rows) (no_returning old.now.schema h.0 h.1.is) h.2).3

    pub failed_keeps : (e : Error) → FailsToQuery sql params old new e → KeepsCommit old new
    unfolding FailsToQuery IsNotRun
    failed_keeps e (inl (inl misread)) = unchanged_keeps old new misread.1
    failed_keeps e (inl (inr fails)) = undone_keeps old new fails.3
    failed_keeps e (inr ran) =
        unchanged_keeps old new (subst (FailsToShow old new sql ran.0 (timed params ran.0.formats ran.1.now) e) (no_returning old.now.schema ran.0 ran.1.is) ran.2).3

    pub row_keeps : (r : Result Row Error) → QueriesRow sql params old new r → KeepsCommit old new
    unfolding QueriesRow
    row_keeps (Ok row) (inl h) = unchanged_keeps old new h.1
    row_keeps (Ok row) (inr h) = unchanged_keeps old new (shown_unchanged h.0 h.1)
    row_keeps (Err e) (inl fails) = failed_keeps e fails
    row_keeps (Err e) (inr none) = unchanged_keeps old new (shown_unchanged [] none.1)

  -- It gives no row as it begins.
  pub begun_none : {S : Type 0} (g : Ghosts S) (params : Row) (old new : Held S) → HasBegun g sql params old new → HasGiven g sql params new [] × IsUnchanged (state g old) (state g new)
  begun_none g params old new (inl query) = query
  begun_none g params old new (inr write) = absurd (never_returns old.schema write.0)

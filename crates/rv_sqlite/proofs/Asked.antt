-- A query of the generation's row, that finds it or finds none.
use Rattle.std.proofs.Common.{◌≡◌, ◌<◌, ◌^◌, ℕ, pos, true, List, [], ◌∷◌, decimal, Ok, Err, Option, inl, inr, refl, sym, ap, subst, ◌∙◌, arith}
use Rattle.std.proofs.lemmas.Fmt.{decimal_injective}
use Rattle.sqlite_value.specs.declared.value.Value.TheVariants.{Null, Int, Blob}
use Rattle.sqlite_value.specs.Order.{Row, column}
use Rattle.sqlite_trees.specs.declared.error.StoreError.{StoreError}
use Rattle.sqlite_trees.specs.declared.error.StoreError.TheVariants.{OutOfMemory, Io, Corrupt, Full, Broken, Unstorable}
use Rattle.sqlite_sql.specs.Term.{col, eval_all}
use Rattle.sqlite_schema.specs.declared.schema.Schema.{Schema}
use Rattle.sqlite_rules.specs.Lists.{Has}
use Rattle.sqlite_rules.proofs.ListLemmas.{all_has}
use Rattle.sqlite.specs.declared.error.Error.TheVariants.{QueryReturnedNoRows}
use Rattle.sqlite.specs.Clock.{timed}
use Rattle.sqlite.specs.Effect.{Database, RefusesToRead}
use Rattle.sqlite.specs.Listing.{understood}
use Rattle.sqlite.specs.State.{State, Begins, IsStatement, Shown, QueriesRow, FailsToQuery, IsNotRun, store_error}
use Rattle.sqlite.proofs.Callers.{IsPlain, command_of, reads_as, first_as}
use Rattle.rv_base.specs.Sorted.{InOrder}
use Rattle.rv_keeper.specs.declared.cell.Cell.{Cell}
use Rattle.rv_keeper.specs.declared.loaded.Loaded.{Loaded}
use Rattle.rv_keeper.specs.Cells.{cell_key}
use Rattle.rv_sqlite.specs.Asked.{one_text, generation_key, FindsNumber}
use Rattle.rv_sqlite.specs.Table.{IsCellAt, is_unused}
use Rattle.rv_sqlite.specs.Stands.{Stands, cell_row}
use Rattle.rv_sqlite.specs.Steps.{generation_cell}
use Rattle.rv_sqlite.specs.Telling.{IsAll, Holds}
use Rattle.rv_sqlite.proofs.CellAt.{low as low_tree}
use Rattle.rv_sqlite.proofs.Meaning.{at_place, one_command, one_means, one_nowhere}
use Rattle.rv_sqlite.proofs.Scan.{are_shown}
use Rattle.rv_sqlite.proofs.Members.{IsAt, one_place}
use Rattle.rv_sqlite.proofs.Compare.{at_if_passes, passes_if_at}
use Rattle.rv_sqlite.proofs.Stepping.{is_no_error}

-- ---- the answer that there is no row is no failure

no_failure : (cause : StoreError) → ¬ (QueryReturnedNoRows ≡ store_error cause)
no_failure OutOfMemory e = absurd (cc)
no_failure Io e = absurd (cc)
no_failure Corrupt e = absurd (cc)
no_failure Full e = absurd (cc)
no_failure Broken e = absurd (cc)
no_failure Unstorable e = absurd (cc)

never_refused : (tree : ℕ) (limit : Option ℕ) (db : Database) (params : Row) → ¬ RefusesToRead limit (one_command tree) db params QueryReturnedNoRows
never_refused tree limit db params (inl mismatch) = absurd (let e = mismatch.0 in cc)
never_refused tree limit db params (inr (inl overflow)) = absurd (let e = overflow.0 in cc)
never_refused tree limit db params (inr (inr interrupted)) = absurd (let e = interrupted.0 in cc)

was_run : (old new : State) (sql : List ℕ) (params : Row) → ¬ IsNotRun old new sql params QueryReturnedNoRows
unfolding IsNotRun
was_run old new sql params (inl (inl misread, same)) = absurd (let e = misread.2 in cc)
was_run old new sql params (inl (inr statement, same)) = elim statement.2 [
  | inl many ↦ absurd (let e = many.1 in cc)
  | inr other ↦ elim other [ inl counted ↦ absurd (let e = counted.1 in cc) | inr clock ↦ absurd (let e = clock.1 in cc) ]
]
was_run old new sql params (inr fails) = no_failure fails.0 fails.1

module _ (old new : State) (at tree : ℕ) (params : Row) (has : IsCellAt old.now.schema at tree) where
  never_fails : ¬ FailsToQuery one_text params old new QueryReturnedNoRows
  unfolding FailsToQuery
  never_fails (inl stopped) = was_run old new one_text params stopped
  never_fails (inr ran) =
      let it = one_means old.now.schema at tree has in
      let known = sym ran.1.is in
      let bare = subst IsPlain (sym known) it.plain in
      let failed = rw (bare.0) at ran.2 in
      let command = ap command_of known ∙ it.is in
      never_refused tree old.step_limit failed.0 (timed params ran.0.formats ran.1.now) (subst (λ k. RefusesToRead old.step_limit k failed.0 (timed params ran.0.formats ran.1.now) QueryReturnedNoRows) command failed.2)

  shows_none : QueriesRow one_text params old new (Err QueryReturnedNoRows) → Shown one_text params old new []
  unfolding QueriesRow
  shows_none (inl fails) = absurd (never_fails fails)
  shows_none (inr none) = none.1

-- ---- what is found

module _ (old new : State) (at tree : ℕ) (shelf : ℕ) (key : List ℕ) (cells : List Cell) (has : IsCellAt old.now.schema at tree) (stands : Stands (old.now.trees tree) cells) where
  -- a row that is found is that of the cell at the place
  finds : (row : Row) → QueriesRow one_text (Int (pos shelf) ∷ Blob key ∷ []) old new (Ok row) → (c : Cell) × Has cells c × IsAt (shelf ∷ key) c × (row ≡ Blob c.body ∷ [])
  finds row h =
      let params = Int (pos shelf) ∷ Blob key ∷ [] in
      let means = one_means old.now.schema at tree has in
      let got = (first_as one_text params old new old.now.schema refl (one_command tree) means.is means.plain means.unlisted row h).1 in
      let it = are_shown tree (low_tree old.now.schema at tree has) at_place (col 1 3 ∷ []) [] old.now.trees params (row ∷ got.0) (got.1 Null) in
      let r = it.sound row (inl refl) in
      let e = stands.read r.0 r.1 in
      (e.1, e.3, at_if_passes e.0 e.1 shelf key (rw e.2 at r.2), r.3 ∙ ap (λ (z : Row). eval_all (col 1 3 ∷ []) (params ∷ z ∷ [])) e.2)

  -- where none is found, no cell is at the place
  finds_none : Shown one_text (Int (pos shelf) ∷ Blob key ∷ []) old new [] → (c : Cell) → Has cells c → ¬ IsAt (shelf ∷ key) c
  finds_none h c there here =
      let params = Int (pos shelf) ∷ Blob key ∷ [] in
      let means = one_means old.now.schema at tree has in
      let it = are_shown tree (low_tree old.now.schema at tree has) at_place (col 1 3 ∷ []) [] old.now.trees params [] ((reads_as one_text params old new old.now.schema refl (one_command tree) means.is means.plain means.unlisted [] h).answer Null) in
      let row = stands.kept c there in
      it.complete (cell_row row.0 c) row.1 (passes_if_at row.0 c shelf key here)

-- the generation, by the cell at its place or by its want
module _ (held : Loaded) (number : ℕ) (all : List Cell) (order : InOrder cell_key all) (whole : IsAll held all) where
  no_cell : (c : Cell) → Has held.cells c → ¬ IsAt (0 ∷ []) c
  no_cell c h at = let low = all_has (λ (d : Cell). 0 < d.shelf) held.cells c whole.shelves h in let s : c.shelf ≡ 0 = cc in omega (arith, low, s)

  by_cell : (c : Cell) → Has all c → IsAt (0 ∷ []) c → c.body ≡ decimal number → number < 2 ^ 64 → held.generation ≡ number
  by_cell c h at body low = elim whole.are [
    | inl a ↦
        let same = one_place (0 ∷ []) all c (generation_cell held.generation) order h (subst (λ l. Has l (generation_cell held.generation)) (sym a) (inl refl)) at refl in
        decimal_injective held.generation number whole.small low (sym (ap (λ (z : Cell). z.body) same) ∙ body)
    | inr a ↦ absurd (no_cell c (subst (λ l. Has l c) a.1 h) at)
  ]

  by_none : ((c : Cell) → Has all c → ¬ IsAt (0 ∷ []) c) → held.generation ≡ 0
  by_none none = elim whole.are [
    | inl a ↦ absurd (none (generation_cell held.generation) (subst (λ l. Has l (generation_cell held.generation)) (sym a) (inl refl)) refl)
    | inr a ↦ a.0
  ]

same_text : (s t : List ℕ) → ◌≡◌ {A = _} (Blob s) (Blob t) → s ≡ t
same_text s t e = cc

-- ---- a database without the table has no such row, and says so of no query

module _ (old new : State) (params : Row) (none : is_unused old.now.schema ≡ true) where
  no_statement : (c : _) → ¬ IsStatement old one_text params c
  no_statement c it = is_no_error (understood old.now.schema one_text) c it.is (one_nowhere old.now.schema none)

  never_answered : (row : Row) → ¬ QueriesRow one_text params old new (Ok row)
  unfolding QueriesRow Begins Shown
  never_answered row (inl h) = no_statement h.0.0 h.0.1
  never_answered row (inr h) = no_statement h.1.0 h.1.1

  never_missed : ¬ QueriesRow one_text params old new (Err QueryReturnedNoRows)
  unfolding QueriesRow FailsToQuery Shown
  never_missed (inl (inl stopped)) = was_run old new one_text params stopped
  never_missed (inl (inr ran)) = no_statement ran.0 ran.1
  never_missed (inr h) = no_statement h.1.0 h.1.1

-- The number that was found is the generation of what is held.
pub number_held : (old new : State) (held : Loaded) (number : ℕ) → old.now ≡ old.committed → FindsNumber old new number → number < 2 ^ 64 → Holds old held → held.generation ≡ number
number_held old new held number settled found low h = elim h.has.are [ inl there ↦ by_table there found | inr new_one ↦ absurd (nowhere new_one.0 found) ]
  where
    by_schema : (P : Schema → Type 0) → P old.committed.schema → P old.now.schema
    by_schema P = subst (λ (d : Database). P d.schema) (sym settled)

    nowhere : is_unused old.committed.schema ≡ true → ¬ FindsNumber old new number
    nowhere none (inl some) = never_answered old new generation_key (by_schema (λ s. is_unused s ≡ true) none) some.0 some.1
    nowhere none (inr missed) = never_missed old new generation_key (by_schema (λ s. is_unused s ≡ true) none) missed.0

    by_table : ((at : ℕ) × (tree : ℕ) × IsCellAt old.committed.schema at tree × Stands (old.committed.trees tree) h.all) → FindsNumber old new number → held.generation ≡ number
    by_table (at, tree, is, rows) (inl some) =
        let has = by_schema (λ s. IsCellAt s at tree) is in
        let stands = subst (λ (d : Database). Stands (d.trees tree) h.all) (sym settled) rows in
        let c = finds old new at tree 0 [] h.all has stands some.0 some.1 in
        let body = same_text c.0.body (decimal number) (sym (ap (λ (r : Row). column r 0) c.3) ∙ some.2) in
        by_cell held number h.all rows.order h.whole c.0 c.1 c.2 body low
    by_table (at, tree, is, rows) (inr missed) =
        let has = by_schema (λ s. IsCellAt s at tree) is in
        let stands = subst (λ (d : Database). Stands (d.trees tree) h.all) (sym settled) rows in
        by_none held number h.all rows.order h.whole (finds_none old new at tree 0 [] h.all has stands (shows_none old new at tree generation_key has missed.0)) ∙ sym missed.1
